-- The sentences of the refusals at worked states: what each call asks for, which numbers are earlier, and each sentence where it holds and where it does not.
use Prim.Native.Nat.{ℕ}
use native.Mathlib.Omega.{arith}
use mathlib.Core.Path.{◌≡◌, refl, ap}
use mathlib.Core.Logic.{◌⊎◌, inl, inr}
use mathlib.Core.Bool.{Bool, true, false, true≢false, false≢true}
use mathlib.Core.List.{List, [], ◌∷◌, ◌++◌, map}
use lib.Dec.{lit<}
use lib.ListN.{replicate}
use Rattle.rules.specs.declared.Key.{Key}
use Rattle.rules.specs.declared.Memory.{Memory}
use Rattle.std.specs.Prelude.{Result, Ok, Err}
use Rattle.rules.specs.declared.Cause.{Cause}
use Rattle.rules.specs.declared.Cause.TheVariants.{NoSlot, FreeSlot, OtherGeneration}
use Rattle.rules.specs.declared.Refusal.TheVariants.{Shape, Unsound, Dead, SameClass, NoElement, NoShared, Short, Malformed, NoFile, Version, Nothing, Sealed, OutOfRange}
use Rattle.rules.specs.Tables.{State}
use Rattle.rules.specs.Refusals.{number_of, cause_number, values_of}
use Rattle.rules.specs.Calls.{len_surject, in_same_surject, get_element, get_shared, get_size, get_total, lookup, set_element, set_shared, check, new_run, insert, union, remove, remove_shared, list, drain, seal, drain_all, clear, undo, exchange, compress, compress_with, write_file}
use Rattle.rules.specs.Exact.{Asks, asks, Why, sooner, Because, Sentence, earlier, Given, Accepted}
use Rattle.rules.proofs.Cases.{rules, key, pool, at, e, s, m}
use Rattle.rules.proofs.Worked.{three, four, joined, goes_on, single}
use Rattle.rules.proofs.CasesDead.{holed}
use Rattle.rules.proofs.Apart.{none}
use Rattle.rules.proofs.Sounds.{trap, trap_unsound, three_sound}

-- keys, whether two may not be in one class, whether none may be sealed, whether a shared slot and an element slot are needed, and how many numbers lent
abbrev want : List Key → (apart unsealed shared element : Bool) → (numbers : ℕ) → Asks
want keys apart unsealed shared element numbers = record { back = false; keys = keys; apart = apart; unsealed = unsealed; shared = shared; element = element; numbers = numbers }

-- a union to take back
abbrev want_back : Asks
want_back = record { back = true; keys = []; apart = false; unsealed = false; shared = false; element = false; numbers = 0 }

abbrev a : Key
a = key 2 1

abbrev b : Key
b = key 1 1

pub asked : map (asks goes_on) (len_surject a ∷ in_same_surject a b ∷ get_element a ∷ get_shared a ∷ get_size a ∷ get_total a ∷ lookup a ∷ set_element a 9 ∷ set_shared a 9 ∷ check ∷ new_run 9 9 0 ∷ insert a 9 0 ∷ union a b ∷ remove a ∷ remove_shared a ∷ list a ∷ drain a ∷ seal a ∷ clear ∷ undo ∷ exchange (a ∷ b ∷ []) (9 ∷ 9 ∷ []) ∷ drain_all ∷ [])
    ++ map (asks single) (compress true ∷ compress_with true ∷ []) ++ asks four write_file ∷ []
    ≡ want (a ∷ []) false false false false 0
    ∷ want (a ∷ b ∷ []) false false false false 0
    ∷ want (a ∷ []) false false false false 0
    ∷ want (a ∷ []) false false false false 0
    ∷ want (a ∷ []) false false false false 0
    ∷ want (a ∷ []) false false false false 0
    ∷ want (a ∷ []) false false false false 0
    ∷ want (a ∷ []) false false false false 0
    ∷ want (a ∷ []) false false false false 0
    ∷ want [] false false false false 0
    ∷ want [] false true true true 0
    ∷ want (a ∷ []) false true false true 0
    ∷ want (a ∷ b ∷ []) true true false false 0
    ∷ want (a ∷ []) false false false false 0
    ∷ want (a ∷ []) false false false false 0
    ∷ want (a ∷ []) false false false false 6
    ∷ want (a ∷ []) false false false false 18
    ∷ want (a ∷ []) false true false false 9
    ∷ want [] false false false false 0
    ∷ want_back
    ∷ want (a ∷ b ∷ []) true false false false 0
    ∷ want [] false false false false 18
    ∷ want [] false false false false 24
    ∷ want [] false false false false 4
    ∷ want [] false false false false 112
    ∷ []
unfolding rules
asked = refl

-- a number, and that of a dead key with its cause
abbrev n : ℕ → List ℕ
n number = number ∷ []

abbrev d : ℕ → List ℕ
d cause = 3 ∷ cause ∷ []

pub order : map (λ r. map (λ q. number_of q ∷ values_of q []) (earlier r)) (Shape ∷ Unsound ∷ Nothing ∷ Dead FreeSlot ∷ SameClass ∷ Sealed ∷ NoShared ∷ NoElement ∷ Short ∷ Malformed ∷ NoFile ∷ Version ∷ OutOfRange ∷ [])
    ≡ []
    ∷ (n 1 ∷ [])
    ∷ (n 1 ∷ n 2 ∷ [])
    ∷ (n 1 ∷ n 2 ∷ n 10 ∷ [])
    ∷ (n 1 ∷ n 2 ∷ n 10 ∷ d 1 ∷ d 2 ∷ d 3 ∷ [])
    ∷ (n 1 ∷ n 2 ∷ n 10 ∷ d 1 ∷ d 2 ∷ d 3 ∷ n 4 ∷ [])
    ∷ (n 1 ∷ n 2 ∷ n 10 ∷ d 1 ∷ d 2 ∷ d 3 ∷ n 4 ∷ n 12 ∷ [])
    ∷ (n 1 ∷ n 2 ∷ n 10 ∷ d 1 ∷ d 2 ∷ d 3 ∷ n 4 ∷ n 12 ∷ n 6 ∷ [])
    ∷ (n 1 ∷ n 2 ∷ n 10 ∷ d 1 ∷ d 2 ∷ d 3 ∷ n 4 ∷ n 12 ∷ n 6 ∷ n 5 ∷ [])
    ∷ []
    ∷ []
    ∷ []
    ∷ []
    ∷ []
order = refl

-- ---- each sentence, where it holds and where it does not

-- what asks for nothing, for keys, for keys apart, for keys not sealed, and for one of the rest
abbrev nothing : Asks
nothing = want [] false false false false 0

abbrev keys : List Key → Asks
keys ks = want ks false false false false 0

abbrev apart : List Key → Asks
apart ks = want ks true false false false 0

abbrev unsealed : List Key → Asks
unsealed ks = want ks false true false false 0

abbrev lent : ℕ → Asks
lent n = want [] false false false false n

-- both tables full, and each alone; two runs of one, the second sealed
abbrev room : (elems shared : ℕ) → State
room elems shared = at (pool elems 2 0 2) (pool shared 2 0 2) 1 (e 1 10 1 1 1 ++ e 1 20 2 2 2) (s 1 100 0 ++ m 1 200 1)

-- a key past the extent is dead, and so is one of another generation
past : Because three (key 4 1) NoSlot
past = (inr (lit< tt), tt)

other : Because three (key 1 2) OtherGeneration
unfolding rules
other = ((λ z. omega (arith, z)), ((neither (λ z. omega (arith, z)) (λ h. omega (arith, h))), ((λ z. omega (arith, z)), tt)))
  where
    neither : {P Q : Type 0} → (P → ⊥) → (Q → ⊥) → P ⊎ Q → ⊥
    neither f g (inl p) = f p
    neither f g (inr q) = g q

pub shape : Sentence none [] nothing Shape × (Sentence three [] nothing Shape → ⊥)
unfolding rules
shape = (refl, true≢false)

pub unsound : Sentence trap [] nothing Unsound × (Sentence three [] nothing Unsound → ⊥)
unsound = ((λ w. trap_unsound w.0), λ n. n (three_sound, inl refl))

-- why: slot 0, past the extent, free, another generation
pub why : Why holed (key 0 5) NoSlot × Why holed (key 4 5) NoSlot × Why holed (key 2 5) FreeSlot × Why holed (key 1 6) OtherGeneration
unfolding rules
why = (inl refl, inr (lit< tt), refl, λ z. omega (arith, z))

pub not_why : (Why holed (key 3 6) NoSlot → ⊥) × (Why holed (key 1 5) FreeSlot → ⊥) × (Why holed (key 1 5) OtherGeneration → ⊥)
unfolding rules
not_why = (go, (λ z. omega (arith, z)), λ n. n refl)
  where
    go : Why holed (key 3 6) NoSlot → ⊥
    go (inl z) = omega (arith, z)
    go (inr h) = omega (arith, h)

pub sooner_ones : map (λ c. map cause_number (sooner c)) (NoSlot ∷ FreeSlot ∷ OtherGeneration ∷ []) ≡ [] ∷ (1 ∷ []) ∷ (1 ∷ 2 ∷ []) ∷ []
sooner_ones = refl

-- not its own sentence, and a sooner one too
pub not_because : (Because holed (key 1 5) OtherGeneration → ⊥) × (Because holed (key 0 5) FreeSlot → ⊥) × (Because holed (key 2 5) OtherGeneration → ⊥)
unfolding rules
not_because = ((λ b. b.0 refl), (λ b. b.1.0 (inl refl)), λ b. b.1.1.0 refl)

-- one of several keys, and of two that are dead the first
pub one_dead : Sentence three [] (keys (key 4 1 ∷ key 1 1 ∷ [])) (Dead NoSlot) × Sentence three [] (keys (key 1 1 ∷ key 4 1 ∷ [])) (Dead NoSlot)
unfolding rules
one_dead = (inl past, inr (refl, inl past))

pub first-dead : Sentence three [] (keys (key 4 1 ∷ key 1 2 ∷ [])) (Dead NoSlot) × Sentence three [] (keys (key 1 2 ∷ key 4 1 ∷ [])) (Dead OtherGeneration)
first-dead = (inl past, inl other)

-- not the second, nor a cause whose turn does not come, nor of keys that are live
live : Result ℕ Cause → Bool
live (Ok x) = true
live (Err cause) = false

pub not-second : Sentence three [] (keys (key 4 1 ∷ key 1 2 ∷ [])) (Dead OtherGeneration) → ⊥
unfolding rules live
not-second (inl b) = b.1.0 (inr (lit< tt))
not-second (inr d) = false≢true (ap live d.0)

pub none-dead : (Sentence three [] nothing (Dead NoSlot) → ⊥) × (Sentence three [] (keys (key 1 1 ∷ key 3 1 ∷ [])) (Dead OtherGeneration) → ⊥)
unfolding rules
none-dead = ((λ n. n), go)
  where
    go : Sentence three [] (keys (key 1 1 ∷ key 3 1 ∷ [])) (Dead OtherGeneration) → ⊥
    go (inl b) = b.0 refl
    go (inr (l, inl b)) = b.0 refl
    go (inr (l, inr n)) = n.1

-- two of three keys, whichever; and only of a call that wants them apart
pub in_one : Sentence four [] (apart (key 1 1 ∷ key 3 1 ∷ key 4 1 ∷ [])) SameClass × Sentence four [] (apart (key 1 1 ∷ key 4 1 ∷ key 3 1 ∷ [])) SameClass × Sentence four [] (apart (key 4 1 ∷ key 1 1 ∷ key 3 1 ∷ [])) SameClass
unfolding rules
in_one = ((tt, inl (inl refl)), (tt, inl (inr (inl refl))), (tt, inr (inl (inl refl))))

pub not_in_one : (Sentence four [] (keys (key 1 1 ∷ key 3 1 ∷ [])) SameClass → ⊥) × (Sentence four [] (apart (key 1 1 ∷ key 4 1 ∷ [])) SameClass → ⊥)
unfolding rules
not_in_one = ((λ h. h.0), go)
  where
    go : Sentence four [] (apart (key 1 1 ∷ key 4 1 ∷ [])) SameClass → ⊥
    go (t, inl (inl q)) = let z : ◌≡◌ {A = ℕ} 1 2 = q in omega arith
    go (t, inl (inr q)) = q
    go (t, inr (inl q)) = q
    go (t, inr (inr q)) = q

-- one of several runs; and only of a call that wants none
pub one_sealed : Sentence (room 2 2) [] (unsealed (key 2 1 ∷ key 1 1 ∷ [])) Sealed × Sentence (room 2 2) [] (unsealed (key 1 1 ∷ key 2 1 ∷ [])) Sealed
unfolding rules
one_sealed = ((tt, inl tt), (tt, inr (inl tt)))

pub not-sealed : (Sentence (room 2 2) [] (keys (key 2 1 ∷ [])) Sealed → ⊥) × (Sentence (room 2 2) [] (unsealed (key 1 1 ∷ [])) Sealed → ⊥)
unfolding rules
not-sealed = ((λ h. h.0), go)
  where
    go : Sentence (room 2 2) [] (unsealed (key 1 1 ∷ [])) Sealed → ⊥
    go (t, inl q) = q
    go (t, inr q) = q

-- no slot of either table
pub full : Sentence (room 2 3) [] (want [] false false false true 0) NoElement × Sentence (room 3 2) [] (want [] false false true false 0) NoShared
full = ((tt, (refl, refl)), (tt, (refl, refl)))

-- by root and extent, and not by the live number
pub by-extent : Sentence (at (pool 2 2 0 1) (pool 2 2 0 1) 1 [] []) [] (want [] false false true true 0) NoElement
by-extent = (tt, (refl, refl))

pub not_full : (Sentence (room 3 2) [] (want [] false false true true 0) NoElement → ⊥) × (Sentence (room 2 3) [] (want [] false false true true 0) NoShared → ⊥)
not_full = ((λ h. omega (arith, h.1.1)), (λ h. omega (arith, h.1.1)))

pub on_chain : Sentence goes_on [] (want [] false false true true 0) NoElement → ⊥
on_chain h = omega (arith, h.1.0)

pub not_needed : (Sentence (room 2 2) [] (want [] false false true false 0) NoElement → ⊥) × (Sentence (room 2 2) [] (want [] false false false true 0) NoShared → ⊥)
not_needed = ((λ h. h.0), (λ h. h.0))

pub short : Sentence three (replicate 5 0) (lent 6) Short × (Sentence three (replicate 6 0) (lent 6) Short → ⊥)
short = (lit< tt, λ h. omega (arith, h))

-- Ticket 7: nothing is remembered; and only of a call that takes back
pub nothing_to_undo : Sentence four [] want_back Nothing × (Sentence joined [] want_back Nothing → ⊥) × (Sentence four [] nothing Nothing → ⊥)
nothing_to_undo = ((tt, refl), (λ h. let z : ◌≡◌ {A = ℕ} 1 0 = ap (λ (m : Memory). m.kept) h.1 in omega arith), λ h. h.0)

pub malformed : Sentence three [] nothing Malformed → ⊥
malformed n = n

-- Ticket 11: 9 and 11 are the reader's
pub no_file : (Sentence three [] nothing NoFile → ⊥) × (Sentence three [] nothing Version → ⊥)
no_file = ((λ n. n), λ n. n)

pub out_of_range : Sentence three [] nothing OutOfRange → ⊥
out_of_range n = n

-- ---- a number is given, or none is

pub given : Given trap [] check Unsound × Given none [] check Shape
unfolding rules
given = (((λ w. trap_unsound w.0), (true≢false, tt)), (refl, tt))

-- not its own sentence, and an earlier one
pub not-given : (Given three [] check Unsound → ⊥) × (Given none [] (len_surject (key 1 1)) (Dead NoSlot) → ⊥)
unfolding rules
not-given = ((λ g. g.0 (three_sound, inl refl)), λ g. g.1.0 refl)

-- each sentence alone is in the way of acceptance
pub not-accepted : (Accepted none [] check → ⊥) × (Accepted trap [] check → ⊥) × (Accepted three [] (len_surject (key 4 1)) → ⊥) × (Accepted four [] (union (key 1 1) (key 3 1)) → ⊥)
unfolding rules
not-accepted = ((λ n. n.0 refl), (λ n. n.1.0 (λ w. trap_unsound w.0)), (λ n. n.1.1.1.0 (inl past)), (λ n. n.1.1.1.1.1.1.0 (tt, inl (inl refl))))

pub not_accepted_slots : (Accepted (room 2 2) [] (insert (key 2 1) 9 0) → ⊥) × (Accepted (room 3 2) [] (new_run 9 9 0) → ⊥) × (Accepted (room 2 2) [] (insert (key 1 1) 9 0) → ⊥) × (Accepted three (replicate 5 0) (list (key 1 1)) → ⊥)
unfolding rules
not_accepted_slots = ((λ n. n.1.1.1.1.1.1.1.0 (tt, inl tt)), (λ n. n.1.1.1.1.1.1.1.1.0 (tt, (refl, refl))), (λ n. n.1.1.1.1.1.1.1.1.1.0 (tt, (refl, refl))), (λ n. n.1.1.1.1.1.1.1.1.1.1.0 (lit< tt)))

pub accepted : Accepted three [] check
unfolding rules
accepted = (true≢false, ((λ n. n (three_sound, inl refl)), ((λ h. h.0), ((λ n. n), ((λ n. n), ((λ n. n), ((λ h. h.0), ((λ h. h.0), ((λ h. h.0), ((λ h. h.0), ((λ h. omega (arith, h)), tt)))))))))))
