-- What an accepting check passed on its way.
use Rattle.std.proofs.Common.{◌≡◌, ℕ, Bool, true, false, ◌&&◌, Some, None, Ok, Err, Option, refl, arith}
use Rattle.values.specs.declared.kind.Kind.{Kind}
use Rattle.values.specs.declared.kind.Kind.TheVariants.{Integer, Boolean}
use Rattle.values.specs.Kinds.{same_kind}
use Rattle.answers.specs.declared.fault.FaultKind.{FaultKind}
use Rattle.answers.specs.declared.fault.Layer.{Layer}
use Rattle.heads.specs.Checked.{Checked, ask, known, ◌>>=◌, ◌>>◌}

pub bind_ok : {A B : Type 0} (x : Checked A) (g : A → Checked B) (v : B) → (x >>= g) ≡ Ok v → (a : A) × (x ≡ Ok a) × (g a ≡ Ok v)
bind_ok (Ok a) g v h = (a, refl, h)
bind_ok (Err x) g v h = absurd (let z : ◌≡◌ {A = ℕ} 0 1 = cc in omega arith)

pub seq_ok : {A B : Type 0} (x : Checked A) (y : Checked B) (v : B) → (x >> y) ≡ Ok v → (a : A) × (x ≡ Ok a) × (y ≡ Ok v)
seq_ok (Ok a) y v h = (a, refl, h)
seq_ok (Err x) y v h = absurd (let z : ◌≡◌ {A = ℕ} 0 1 = cc in omega arith)

pub ask_ok : {B : Type 0} (b : Bool) (k : FaultKind) (at : ℕ) (l : Layer) (y : Checked B) (v : B) → (ask b k at l >> y) ≡ Ok v → (b ≡ true) × (y ≡ Ok v)
ask_ok true k at l y v h = (refl, h)
ask_ok false k at l y v h = absurd (let z : ◌≡◌ {A = ℕ} 0 1 = cc in omega arith)

pub ask_last : (b : Bool) (k : FaultKind) (at : ℕ) (l : Layer) (v : Unit {0}) → ask b k at l ≡ Ok v → b ≡ true
ask_last true k at l v h = refl
ask_last false k at l v h = absurd (let z : ◌≡◌ {A = ℕ} 0 1 = cc in omega arith)

pub known_ok : {A : Type 0} (o : Option A) (k : FaultKind) (at : ℕ) (l : Layer) (a : A) → known o k at l ≡ Ok a → o ≡ Some a
known_ok None k at l a h = absurd (let z : ◌≡◌ {A = ℕ} 0 1 = cc in omega arith)
known_ok (Some b) k at l a h = cc

pub both_true : (a b : Bool) → (a && b) ≡ true → (a ≡ true) × (b ≡ true)
both_true true b h = (refl, h)
both_true false b h = absurd (let z : ◌≡◌ {A = ℕ} 0 1 = cc in omega arith)

pub ok_is : {A : Type 0} (a b : A) → ◌≡◌ {A = Checked A} (Ok a) (Ok b) → a ≡ b
ok_is a b h = cc

pub same_from : (a b : Kind) → same_kind a b ≡ true → b ≡ a
same_from Integer Integer e = refl
same_from Integer Boolean e = absurd (let z : ◌≡◌ {A = ℕ} 0 1 = cc in omega arith)
same_from Boolean Integer e = absurd (let z : ◌≡◌ {A = ℕ} 0 1 = cc in omega arith)
same_from Boolean Boolean e = refl

pub same_refl : (a : Kind) → same_kind a a ≡ true
same_refl Integer = refl
same_refl Boolean = refl
