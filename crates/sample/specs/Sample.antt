-- What a record of the sample says of a call: the refusal and the answers (rust/differential/src/sample.rs).
use Rattle.std.specs.Prelude.{ℕ, ◌+◌, ◌*◌, ◌-◌, ◌<◌, ◌≡◌, Bool, true, false, List, [], ◌∷◌, Option, Some, None, Result, Ok, Err, get_or}
use Rattle.rules.specs.declared.Key.{Key}
use Rattle.rules.specs.declared.Joined.{Joined}
use Rattle.rules.specs.declared.Refusal.{Refusal}
use Rattle.rules.specs.declared.Removed.{Removed}
use Rattle.rules.specs.declared.Rest.{Rest}
use Rattle.rules.specs.declared.Rest.TheVariants as rest
use Rattle.rules.specs.Refusals.{Said, said_refused}

-- the refusal's number, 0 where the call was accepted; how many answers; the answer at a place
abbrev pub refusal_of : List ℕ → ℕ
refusal_of sample = get_or sample 9 0

abbrev pub count_of : List ℕ → ℕ
count_of sample = get_or sample 10 0

abbrev pub answer_at : List ℕ → ℕ → ℕ
answer_at sample at = get_or sample (11 + at) 0

-- an answer's first values are those of the record
abbrev pub Listed : (at : ℕ) → (values sample : List ℕ) → Type 0
Listed at [] sample = Unit
Listed at (v ∷ vs) sample = (v ≡ answer_at sample at) × Listed (at + 1) vs sample

-- the Rust said the same; of a refusal, the number, since it tells no cause
pub record Agrees (said : Said) (sample : List ℕ) : Type 0 where
  pub number : said.number ≡ refusal_of sample
  pub values : said.number ≡ 0 → Listed 0 said.values sample

-- removal: the payload, then 0 and 0 where the run goes on, or 1 and its value
abbrev pub rest_answers : Rest → List ℕ
rest_answers rest.GoesOn = 0 ∷ 0 ∷ []
rest_answers (rest.Last value) = 1 ∷ value ∷ []

abbrev pub removed_answers : Removed → List ℕ
removed_answers r = r.payload ∷ rest_answers r.rest

-- ---- keys: in the sample a frame has a number, and a key is kept for each as it is given

abbrev pub key_of : (given : List (Option Key)) (frame : ℕ) → Option Key
key_of given frame = get_or given frame None

-- union: the value that was, the kept key, told as its frame, and how many frames moved
pub record JoinsAs (union : Joined) (given : List (Option Key)) (sample : List ℕ) : Type 0 where
  pub accepted : 0 ≡ refusal_of sample
  pub value : union.was ≡ answer_at sample 0
  pub key : Some union.kept ≡ key_of given (answer_at sample 1)
  pub frames : union.moved ≡ answer_at sample 2

abbrev pub JoinedAs : Result Joined Refusal → (given : List (Option Key)) (sample : List ℕ) → Type 0
JoinedAs (Ok union) given sample = JoinsAs union given sample
JoinedAs (Err r) given sample = Agrees (said_refused r) sample

-- a frame's key stands at a place of what was written
abbrev pub key_at : (written : List ℕ) (at : ℕ) → Key
key_at written at = record { slot = get_or written at 0; generation = get_or written (at + 1) 0 }

abbrev pub KeyAt : (written : List ℕ) (at : ℕ) (key : Option Key) → Type 0
KeyAt written at key = Some (key_at written at) ≡ key

-- a ring: the keys of the first `count` answers, in their order, `width` numbers apart
abbrev pub RingOf : (count width : ℕ) (written : List ℕ) (given : List (Option Key)) (sample : List ℕ) → Type 0
RingOf count width written given sample = (i : ℕ) → i < count → KeyAt written (i * width) (key_of given (answer_at sample i))

-- list: the ring, which is all that the record answers
pub record ListsAs (n : ℕ) (written : List ℕ) (given : List (Option Key)) (sample : List ℕ) : Type 0 where
  pub accepted : 0 ≡ refusal_of sample
  pub count : n ≡ count_of sample
  pub ring : RingOf n 2 written given sample

abbrev pub ListedAs : Result ℕ Refusal → (written : List ℕ) (given : List (Option Key)) (sample : List ℕ) → Type 0
ListedAs (Ok n) written given sample = ListsAs n written given sample
ListedAs (Err r) written given sample = Agrees (said_refused r) sample

-- drain: the ring, and then the run's value, which the last record has
pub record DrainsAs (n : ℕ) (written : List ℕ) (given : List (Option Key)) (sample : List ℕ) : Type 0 where
  pub accepted : 0 ≡ refusal_of sample
  pub count : n + 1 ≡ count_of sample
  pub value : get_or written (n * 6 - 2) 0 ≡ answer_at sample n
  pub ring : RingOf n 6 written given sample

abbrev pub DrainedAs : Result ℕ Refusal → (written : List ℕ) (given : List (Option Key)) (sample : List ℕ) → Type 0
DrainedAs (Ok n) written given sample = DrainsAs n written given sample
DrainedAs (Err r) written given sample = Agrees (said_refused r) sample

-- a test is passed only where it holds
abbrev pub OnlyIf : Type 0 → Bool → Type 0
OnlyIf holds true = holds
OnlyIf holds false = Unit
