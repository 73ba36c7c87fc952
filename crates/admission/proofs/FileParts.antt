-- The check of a file, part by part.
use Rattle.std.proofs.Common.{◌≡◌, ℕ, ◌+◌, ◌≤◌, ◌&&◌, eqb, leb, List, length, Ok, sym, ◌∙◌, subst, arith, eq-eqb, eqb-true, le-leb, leb-true}
use Rattle.commands.specs.Bytes.{classes_size, file_bytes}
use Rattle.commands.specs.Stands.{BehaviourAt}
use Rattle.commands.specs.Trees.{File, behaviour_size}
use Rattle.answers.specs.declared.fault.FaultKind.TheVariants.{Length, FirstBytes, Command}
use Rattle.answers.specs.declared.fault.Layer.TheVariants.{File as FileL, Behaviour as BehaviourL}
use Rattle.files.specs.Behaviours.{check_behaviour}
use Rattle.files.specs.Files.{levels, check_classes, check_header, Summary, check_file}
use Rattle.heads.specs.Heads.{byte}
use Rattle.commands.specs.ByteLists.{Bytes}
use Rattle.admission.specs.Admission.{summary}
use Rattle.admission.specs.Conditions.{BehaviourKept, Conditions, processes}
use Rattle.admission.proofs.Oks.{bind_ok, seq_ok, ask_ok, ask_last, both_true, ok_is}
use Rattle.admission.proofs.Behs.{behaviour_sound, behaviour_complete}
use Rattle.admission.proofs.ClassParts.{ClassesAt, classes_sound, classes_complete}

pub record HeaderValid (f : List ℕ) : Type 0 where
  pub least : 4 ≤ length f
  pub most : length f ≤ 4096
  pub first : byte f 0 ≡ 0x50
  pub second : byte f 1 ≡ 0x53
  pub third : byte f 2 ≡ 0x01
  pub some : 1 ≤ byte f 3
  pub few : byte f 3 ≤ 8

-- a tree stands in the file, and nothing else
pub record FileAt (f : List ℕ) (t : File) : Type 0 where
  pub header : HeaderValid f
  pub count : byte f 3 ≡ length t.classes
  pub classes : ClassesAt f 4 t.classes
  pub behaviour : BehaviourAt f (4 + classes_size t.classes) t.behaviour
  pub ends : length f ≡ 4 + classes_size t.classes + behaviour_size t.behaviour

header_sound : (f : List ℕ) (u : Unit {0}) → check_header f ≡ Ok u → HeaderValid f
header_sound f u h =
    let a = ask_ok (leb 4 (length f) && leb (length f) 4096) Length 0 FileL _ u h in
    let b = ask_ok (eqb (byte f 0) 0x50) FirstBytes 0 FileL _ u a.1 in
    let c = ask_ok (eqb (byte f 1) 0x53) FirstBytes 1 FileL _ u b.1 in
    let d = ask_ok (eqb (byte f 2) 0x01) FirstBytes 2 FileL _ u c.1 in
    let e = ask_last (leb 1 (byte f 3) && leb (byte f 3) 8) FirstBytes 3 FileL u d.1 in
    let x = both_true (leb 4 (length f)) (leb (length f) 4096) a.0 in
    let y = both_true (leb 1 (byte f 3)) (leb (byte f 3) 8) e in
    record {
      least = leb-true 4 (length f) x.0;
      most = leb-true (length f) 4096 x.1;
      first = eqb-true (byte f 0) 0x50 b.0;
      second = eqb-true (byte f 1) 0x53 c.0;
      third = eqb-true (byte f 2) 0x01 d.0;
      some = leb-true 1 (byte f 3) y.0;
      few = leb-true (byte f 3) 8 y.1;
    }

header_complete : (f : List ℕ) → HeaderValid f → check_header f ≡ Ok tt
header_complete f h =
    let a = le-leb 4 (length f) h.least in
    let b = le-leb (length f) 4096 h.most in
    let x = eq-eqb (byte f 0) 0x50 h.first in
    let y = eq-eqb (byte f 1) 0x53 h.second in
    let z = eq-eqb (byte f 2) 0x01 h.third in
    let c = le-leb 1 (byte f 3) h.some in
    let d = le-leb (byte f 3) 8 h.few in
    rw (a, b, x, y, z, c, d)

same_summary : (a b c x y z : ℕ) → a ≡ x → b ≡ y → c ≡ z → ◌≡◌ {A = Summary} (a, b, c) (x, y, z)
same_summary a b c x y z p q r = cc

-- an accepted file has a tree; its conditions, where its encoding is as long as the file
pub file_sound : (f : List ℕ) (s : Summary) → Bytes f → check_file f ≡ Ok s → (t : File) × FileAt f t × (length (file_bytes t) ≡ length f → Conditions t) × (s ≡ summary t)
file_sound f s bs h =
    let a = seq_ok (check_header f) _ s h in
    let hd = header_sound f a.0 a.1 in
    let b = bind_ok (check_classes (byte f 3) f 4) _ s a.2 in
    let cs = classes_sound (byte f 3) f bs 4 b.0 b.1 in
    let c = bind_ok (check_behaviour levels f (byte f 3) b.0 0) _ s b.2 in
    let e = c.0 in
    let d = ask_ok (eqb e.0 (length f)) Command e.0 BehaviourL _ s c.2 in
    let beh = behaviour_sound levels f bs (byte f 3) b.0 0 e c.1 in
    let t : File = record { classes = cs.0; behaviour = beh.0 } in
    let stop : e.0 ≡ length f = eqb-true e.0 (length f) d.0 in
    let count : byte f 3 ≡ length cs.0 = sym cs.1.count in
    let place : b.0 ≡ 4 + classes_size cs.0 = cs.1.ends in
    let procs : e.1 ≡ processes beh.0 = omega (arith, beh.1.counted) in
    let last : ◌≡◌ {A = Summary} (byte f 3, b.0, e.1) s = ok_is _ s d.1 in (
      t,
      record { header = hd; count = count; classes = cs.1.stand; behaviour = subst (λ i. BehaviourAt f i beh.0) place beh.1.stands; ends = omega (arith, stop, beh.1.ends, place) },
      (λ long. record {
        some_class = omega (arith, hd.some, count);
        classes_few = omega (arith, hd.few, count);
        classes_kept = cs.1.kept;
        behaviour_kept = subst (λ i. BehaviourKept i beh.0) count beh.1.kept;
        behaviour_deep = beh.1.deep;
        processes_few = omega (arith, beh.1.few);
        short = omega (arith, long, hd.most);
      }),
      sym last ∙ same_summary _ _ _ _ _ _ count place procs,
    )

pub file_complete : (f : List ℕ) (t : File) → FileAt f t → Conditions t → check_file f ≡ Ok (summary t)
file_complete f t h k =
    let n = length t.classes in
    let m = 4 + classes_size t.classes in
    let cs : check_classes n f 4 ≡ Ok m = classes_complete t.classes f 4 h.classes k.classes_kept in
    let few : 0 + processes t.behaviour ≤ 8 = omega (arith, k.processes_few) in
    let beh : check_behaviour levels f n m 0 ≡ Ok (m + behaviour_size t.behaviour, 0 + processes t.behaviour) = behaviour_complete t.behaviour levels f n m 0 h.behaviour k.behaviour_kept k.behaviour_deep few in
    let here = eq-eqb (m + behaviour_size t.behaviour) (length f) (sym h.ends) in
    let none : 0 + processes t.behaviour ≡ processes t.behaviour = omega arith in
    rw (header_complete f h.header, h.count, cs, beh, here, none)
