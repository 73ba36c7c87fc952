-- What the choosers mean that words can name.
use Rattle.std.specs.Prelude.{drop, vec_items}
use Rattle.choosers.specs.Meanings.{Meaning, picking}
use Rattle.choosers.specs.Holds.{hold}
use Rattle.choosers.specs.Rotations.{rotation}
use Rattle.choosers.specs.Scripts.{script}
use Rattle.choosers.specs.Seniorities.{seniority, by_number}
use Rattle.rota.specs.declared.choice.Choice.{Choice}
use Rattle.rota.specs.declared.choice.Choice.TheVariants.{Script as ScriptC, Plain, Hold as HoldC}
use Rattle.rota.specs.declared.choice.Fair.TheVariants.{Rotation as RotationF, Seniority as SeniorityF}
use Rattle.rota.specs.declared.chosen.Chosen.{Chosen}
use Rattle.rota.specs.declared.chosen.Chosen.TheVariants.{Script, Rotation, Seniority, HoldRotation, HoldSeniority}

-- a chooser, wherever it stands
abbrev pub meaning_of : Chosen → Meaning
meaning_of (Script s) = script (drop s.followed (vec_items s.numbers))
meaning_of (Rotation r) = picking (rotation r.cursor)
meaning_of (Seniority s) = picking (seniority s.order)
meaning_of (HoldRotation h) = picking (hold h.k (rotation h.below.cursor) h.left h.kept)
meaning_of (HoldSeniority h) = picking (hold h.k (seniority h.below.order) h.left h.kept)

-- the chooser that is named, at its start
abbrev pub named : Choice → Meaning
named (ScriptC ns) = script (vec_items ns)
named (Plain RotationF) = picking (rotation 0)
named (Plain SeniorityF) = picking (seniority by_number)
named (HoldC k RotationF) = picking (hold k (rotation 0) 0 0)
named (HoldC k SeniorityF) = picking (hold k (seniority by_number) 0 0)
