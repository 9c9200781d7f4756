-- Numbers given on refusal, once more and apart from the rules: the sentence of each number over any call. The rules give it exactly then (proofs/Exactly).
use Rattle.std.specs.Prelude.{ℕ, ◌+◌, ◌*◌, ◌≤◌, ◌<◌, ◌≡◌, ◌≢◌, ◌⊎◌, Bool, true, false, List, [], ◌∷◌, ◌++◌, T, length}
use Rattle.rules.specs.declared.Pool.{Pool}
use Rattle.rules.specs.declared.Key.{Key}
use Rattle.rules.specs.declared.Cause.{Cause}
use Rattle.rules.specs.declared.Cause.TheVariants.{NoSlot, FreeSlot, OtherGeneration}
use Rattle.rules.specs.declared.Refusal.{Refusal}
use Rattle.rules.specs.declared.Refusal.TheVariants.{Shape, Unsound, Dead, SameClass, NoElement, NoShared, Short, Malformed, NoFile, Nothing, Version, Sealed, OutOfRange}
use Rattle.rules.specs.Tables.{frame_width, generation_of, class_of, State, blank, Side, is_free, LiveKey, size_at, is_sealed}
use Rattle.rules.specs.Undo.{Whole}
use Rattle.rules.specs.Refusals.{shaped}
use Rattle.rules.specs.Drains.{key_width, record_width}
use Rattle.rules.specs.Seals.{seal_width}
use Rattle.rules.specs.Compress.{pair_width}
use Rattle.rules.specs.Calls.{Call, len_surject, in_same_surject, get_element, get_shared, get_size, get_total, lookup, set_element, set_shared, check, new_run, insert, union, remove, remove_shared, list, drain, seal, drain_all, clear, undo, exchange, compress, compress_with, write_file}

-- one of these, two of these, none of these
abbrev pub Some : {A : Type 0} → (A → Type 0) → List A → Type 0
Some P [] = ⊥
Some P (x ∷ xs) = P x ⊎ Some P xs

abbrev pub Two : {A : Type 0} → (A → A → Type 0) → List A → Type 0
Two P [] = ⊥
Two P (x ∷ xs) = Some (P x) xs ⊎ Two P xs

abbrev pub None : {A : Type 0} → (A → Type 0) → List A → Type 0
None P [] = Unit {0}
None P (x ∷ xs) = (P x → ⊥) × None P xs

-- What a call asks for
pub record Asks : Type 0 where
  -- 10: whether a union is taken back
  pub back : Bool
  -- 3: the keys handed in; 4: whether two of them may not be in one class
  pub keys : List Key
  pub apart : Bool
  -- 12: whether no run of theirs may be sealed
  pub unsealed : Bool
  -- 6 and 5: whether a shared slot is needed, and an element slot
  pub shared : Bool
  pub element : Bool
  -- 7: how many numbers the lent output or scratch must have
  pub numbers : ℕ

abbrev pub on_keys : List Key → Asks
on_keys keys = record { back = false; keys = keys; apart = false; unsealed = false; shared = false; element = false; numbers = 0 }

abbrev pub taking_back : Asks
taking_back = record { back = true; keys = []; apart = false; unsealed = false; shared = false; element = false; numbers = 0 }

abbrev pub on_keys_apart : List Key → Asks
on_keys_apart keys = record { back = false; keys = keys; apart = true; unsealed = false; shared = false; element = false; numbers = 0 }

abbrev pub joining : List Key → Asks
joining keys = record { back = false; keys = keys; apart = true; unsealed = true; shared = false; element = false; numbers = 0 }

abbrev pub taking_slots : List Key → (shared : Bool) → Asks
taking_slots keys shared = record { back = false; keys = keys; apart = false; unsealed = true; shared = shared; element = true; numbers = 0 }

abbrev pub writing : List Key → (numbers : ℕ) → Asks
writing keys numbers = record { back = false; keys = keys; apart = false; unsealed = false; shared = false; element = false; numbers = numbers }

abbrev pub sealing : List Key → (numbers : ℕ) → Asks
sealing keys numbers = record { back = false; keys = keys; apart = false; unsealed = true; shared = false; element = false; numbers = numbers }

-- Refusals, below the table: listing, draining and sealing need as many places as frames written, compression as many slots as the element capacity; Ticket 3: a pair for each frame; Ticket 11: 8 bytes, 28 for each run and 12 for each frame
abbrev pub asks : State → Call → Asks
asks st (len_surject k) = on_keys (k ∷ [])
asks st (in_same_surject j k) = on_keys (j ∷ k ∷ [])
asks st (get_element k) = on_keys (k ∷ [])
asks st (get_shared k) = on_keys (k ∷ [])
asks st (get_size k) = on_keys (k ∷ [])
asks st (get_total k) = on_keys (k ∷ [])
asks st (lookup k) = on_keys (k ∷ [])
asks st (set_element k payload) = on_keys (k ∷ [])
asks st (set_shared k value) = on_keys (k ∷ [])
asks st check = on_keys []
asks st (new_run payload value size) = taking_slots [] true
asks st (insert k payload size) = taking_slots (k ∷ []) false
asks st (union j k) = joining (j ∷ k ∷ [])
asks st (remove k) = on_keys (k ∷ [])
asks st (remove_shared k) = on_keys (k ∷ [])
asks st (list k) = writing (k ∷ []) (size_at st k.slot * key_width)
asks st (drain k) = writing (k ∷ []) (size_at st k.slot * record_width)
asks st (seal k) = sealing (k ∷ []) (size_at st k.slot * seal_width)
asks st drain_all = writing [] (st.head.elems.live * record_width)
asks st clear = on_keys []
asks st undo = taking_back
asks st (exchange keys values) = on_keys_apart keys
asks st (compress reset) = writing [] (st.head.elems.capacity * frame_width)
asks st (compress_with reset) = writing [] (st.head.elems.live * pair_width)
asks st write_file = writing [] (8 + st.head.shared.live * 28 + st.head.elems.live * 12)

-- Ticket 5: the sentence of each cause, and the causes tested before it
abbrev pub Why : State → Key → Cause → Type 0
Why st k NoSlot = (k.slot ≡ 0) ⊎ (st.head.elems.extent < k.slot)
Why st k FreeSlot = generation_of st.elems k.slot ≡ 0
Why st k OtherGeneration = generation_of st.elems k.slot ≢ k.generation

abbrev pub sooner : Cause → List Cause
sooner NoSlot = []
sooner FreeSlot = NoSlot ∷ []
sooner OtherGeneration = NoSlot ∷ FreeSlot ∷ []

abbrev pub Because : State → Key → Cause → Type 0
Because st k c = Why st k c × None (Why st k) (sooner c)

-- 3: that is why the first key that is not live is dead
abbrev pub FirstDead : State → Cause → List Key → Type 0
FirstDead st c [] = ⊥
FirstDead st c (k ∷ ks) = Because st k c ⊎ (LiveKey st k × FirstDead st c ks)

-- 5 and 6: the free root is 0 and extent equals capacity
abbrev pub Full : Pool → Type 0
Full p = (p.root ≡ 0) × (p.extent ≡ p.capacity)

-- Ticket 4: no slot up to the capacity is free; a slot past the extent is free
abbrev pub NoneFree : Side → Type 0
NoneFree t = (s : ℕ) → T (is_free t s) ⊎ ((t.pool.extent < s) × (s ≤ t.pool.capacity)) → ⊥

-- 4: two keys in one class
abbrev pub OneClass : State → (j k : Key) → Type 0
OneClass st j k = class_of st.elems j.slot ≡ class_of st.elems k.slot

-- Refusals 1 to 8, the table; Ticket 1: 12; Ticket 5: the causes of 3; Ticket 7: 10
abbrev pub Sentence : State → (lent : List ℕ) → Asks → Refusal → Type 0
Sentence st lent a Shape = shaped st ≡ false
Sentence st lent a Unsound = Whole st → ⊥
Sentence st lent a Nothing = T a.back × (st.head.undo ≡ blank)
Sentence st lent a (Dead cause) = FirstDead st cause a.keys
Sentence st lent a SameClass = T a.apart × Two (OneClass st) a.keys
Sentence st lent a NoElement = T a.element × Full st.head.elems
Sentence st lent a NoShared = T a.shared × Full st.head.shared
Sentence st lent a Short = length lent < a.numbers
Sentence st lent a Malformed = ⊥
Sentence st lent a NoFile = ⊥
Sentence st lent a Version = ⊥
Sentence st lent a Sealed = T a.unsealed × Some (λ k. T (is_sealed st k.slot)) a.keys
Sentence st lent a OutOfRange = ⊥

-- Refusals, order: 1, 2, 10 (Ticket 7), 3, 4, 12 (Ticket 1), 6, 5, 7; 8 is the script program's alone, 9 and 11 are the reader's (Ticket 11), and 13 the ceiling's (Ticket 9)
abbrev pub until_dead : List Refusal
until_dead = Shape ∷ Unsound ∷ Nothing ∷ Dead NoSlot ∷ Dead FreeSlot ∷ Dead OtherGeneration ∷ []

abbrev pub earlier : Refusal → List Refusal
earlier Shape = []
earlier Unsound = Shape ∷ []
earlier Nothing = Shape ∷ Unsound ∷ []
earlier (Dead cause) = Shape ∷ Unsound ∷ Nothing ∷ []
earlier SameClass = until_dead
earlier Sealed = until_dead ++ SameClass ∷ []
earlier NoShared = until_dead ++ SameClass ∷ Sealed ∷ []
earlier NoElement = until_dead ++ SameClass ∷ Sealed ∷ NoShared ∷ []
earlier Short = until_dead ++ SameClass ∷ Sealed ∷ NoShared ∷ NoElement ∷ []
earlier Malformed = []
earlier NoFile = []
earlier Version = []
earlier OutOfRange = []

-- a number's turn comes, if the sentence of no earlier number holds; and it is given, if its own then does
abbrev pub Turn : State → (lent : List ℕ) → Call → Refusal → Type 0
Turn st lent c r = None (Sentence st lent (asks st c)) (earlier r)

abbrev pub Given : State → (lent : List ℕ) → Call → Refusal → Type 0
Given st lent c r = Sentence st lent (asks st c) r × Turn st lent c r

-- and a call is accepted, if no sentence holds
abbrev pub Accepted : State → (lent : List ℕ) → Call → Type 0
Accepted st lent c = None (Sentence st lent (asks st c)) (until_dead ++ SameClass ∷ Sealed ∷ NoShared ∷ NoElement ∷ Short ∷ [])
