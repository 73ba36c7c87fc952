-- Numbers and steps, as words write them.
use Rattle.std.specs.Prelude.{◌≡◌, ℕ, ◌≤◌, List, [], map, length, codes, slice_index_or}
use Rattle.std.specs.Borrow.{Bor}
use Rattle.std.specs.Str.Parse.{IsNumeral, digits_value}
use Rattle.records.specs.declared.step.Step.{Step}
use Rattle.rota.specs.declared.words.StepFault.{StepFault}
use Rattle.rota.specs.declared.words.StepFault.TheVariants.{NotSevenNumbers, NotClosed, NoProcess, NotAByte}

-- a word of one digit or more that writes n, from 0 to top
pub record Number (top : ℕ) (word : List ℕ) (n : ℕ) : Type 0 where
  pub digits : IsNumeral 10 word
  pub is : n ≡ digits_value 10 word
  pub within : n ≤ top

abbrev pub NoNumber : ℕ → List ℕ → Type 0
NoNumber top word = (n : ℕ) → Number top word n → ⊥

-- seven words that write a closed step: of kind 0 or 1, and of processes 0 to 7
pub record Written (k p f q g c m : List ℕ) (s : Step) : Type 0 where
  pub kind : Number 1 k s.kind
  pub process : Number 7 p s.process
  pub front : Number 255 f s.front
  pub partner : Number 255 q s.partner
  pub partner_front : Number 255 g s.partner_front
  pub channel : Number 255 c s.channel
  pub message : Number 255 m s.message
  pub meets : s.kind ≡ 1 → s.partner ≤ 7

-- the texts of a list of words
abbrev pub texts : List (Bor (List ℕ)) → List (List ℕ)
texts ws = map (λ x. x.now) ws

-- they are seven, and write the step
abbrev pub StepWords : List (List ℕ) → Step → Type 0
StepWords ws s = (length ws ≡ 7) × Written (slice_index_or ws 0 []) (slice_index_or ws 1 []) (slice_index_or ws 2 []) (slice_index_or ws 3 []) (slice_index_or ws 4 []) (slice_index_or ws 5 []) (slice_index_or ws 6 []) s

-- what is written of a fault
abbrev pub step_fault_text : StepFault → List ℕ
step_fault_text NotSevenNumbers = codes "a step has seven numbers"
step_fault_text NotClosed = codes "a closed step has kind 0 or 1"
step_fault_text NoProcess = codes "a process is a number from 0 to 7"
step_fault_text NotAByte = codes "a field of a step is a number from 0 to 255"
