-- Step records.
use Rattle.std.specs.Prelude.{ℕ, Bool, ◌&&◌, ◌||◌, List, ◌++◌, codes, decimal, ◌==◌}
use Rattle.records.specs.declared.step.Step.{Step}

-- a field that does not apply holds 255

abbrev pub alone : ℕ → ℕ → ℕ → ℕ → ℕ → Step
alone k p f c m = record { kind = k; process = p; front = f; partner = 255; partner_front = 255; channel = c; message = m }

abbrev pub internal : ℕ → ℕ → Step
internal p f = record { kind = 0; process = p; front = f; partner = 255; partner_front = 255; channel = 255; message = 255 }

abbrev pub meeting : ℕ → ℕ → ℕ → ℕ → ℕ → ℕ → Step
meeting p f q g c m = record { kind = 1; process = p; front = f; partner = q; partner_front = g; channel = c; message = m }

abbrev pub outside_send : ℕ → ℕ → ℕ → ℕ → Step
outside_send p f c m = record { kind = 2; process = p; front = f; partner = 255; partner_front = 255; channel = c; message = m }

abbrev pub outside_receive : ℕ → ℕ → ℕ → ℕ → Step
outside_receive p f c m = record { kind = 3; process = p; front = f; partner = 255; partner_front = 255; channel = c; message = m }

-- internal steps and meetings need nothing from outside
abbrev pub closed : Step → Bool
closed s = s.kind == 0 || s.kind == 1

-- process p is in the step s: as its process, or as its partner in a meeting
abbrev pub has : ℕ → Step → Bool
has p s = s.process == p || (s.kind == 1 && s.partner == p)

-- s is an internal step of process p
abbrev pub internal_of : ℕ → Step → Bool
internal_of p s = s.kind == 0 && s.process == p

-- what a read past the end gives
abbrev pub no_step : Step
no_step = record { kind = 0; process = 0; front = 0; partner = 0; partner_front = 0; channel = 0; message = 0 }

-- a number and a space, before what follows
abbrev pub spaced : ℕ → List ℕ → List ℕ
spaced n rest = decimal n ++ (codes " " ++ rest)

-- the seven numbers of a step
abbrev pub step_text : Step → List ℕ
step_text s = spaced s.kind (spaced s.process (spaced s.front (spaced s.partner (spaced s.partner_front (spaced s.channel (decimal s.message))))))
