-- Ticket 5: why a key is dead, as rows: each cause in each kind of call, the first dead key of several, and the corners of lookup.
use Prim.Native.Nat.{ℕ}
use mathlib.Core.Path.{◌≡◌, refl}
use mathlib.Core.List.{List, [], ◌∷◌, ◌++◌, map}
use lib.ListN.{replicate}
use Rattle.rules.specs.declared.Key.{Key}
use Rattle.rules.specs.Tables.{State, frame_width}
use Rattle.rules.specs.Refusals.{Outcome}
use Rattle.rules.specs.Calls.{Call, len_surject, in_same_surject, get_element, get_shared, get_size, get_total, lookup, set_element, set_shared, insert, union, remove, remove_shared, list, drain, seal, exchange, step}
use Rattle.rules.proofs.Cases.{rules, key, ok, dead, pool, at, e, s, zeros}
use Rattle.rules.proofs.Worked.{fresh43}

-- a state of extent 3 and capacity 4: a run of the slots 1 and 3, and slot 2 free
abbrev pub holed : State
holed = at (pool 4 3 2 2) (pool 1 1 0 1) 7 (e 5 10 1 3 3 ++ e 0 0 0 0 0 ++ e 6 12 1 1 1 ++ zeros frame_width 1) (s 2 100 0)

-- live ones; and dead ones of each cause
abbrev a : Key
a = key 1 5

abbrev b : Key
b = key 3 6

abbrev past : Key
past = key 4 5

abbrev free : Key
free = key 2 5

abbrev old : Key
old = key 1 6

-- every kind of call with a key, at each place where it takes one
abbrev kinds : Key → List Call
kinds k =
    len_surject k ∷ get_element k ∷ get_shared k ∷ get_size k ∷ get_total k ∷ lookup k ∷ set_element k 9 ∷ set_shared k 9 ∷ insert k 9 0 ∷ remove k ∷ remove_shared k ∷ list k ∷ drain k ∷ seal k ∷
    in_same_surject k a ∷ in_same_surject a k ∷ union k a ∷ union a k ∷
    exchange (k ∷ a ∷ b ∷ a ∷ []) (1 ∷ 2 ∷ 3 ∷ 4 ∷ []) ∷ exchange (a ∷ k ∷ b ∷ a ∷ []) (1 ∷ 2 ∷ 3 ∷ 4 ∷ []) ∷
    exchange (a ∷ b ∷ k ∷ a ∷ []) (1 ∷ 2 ∷ 3 ∷ 4 ∷ []) ∷ exchange (a ∷ b ∷ a ∷ k ∷ []) (1 ∷ 2 ∷ 3 ∷ 4 ∷ []) ∷ []

abbrev each : Key → List Outcome
each k = map (step holed (9 ∷ [])) (kinds k)

pub cause_1 : each past ≡ replicate 22 (dead 1 holed (9 ∷ []))
unfolding rules
cause_1 = refl

pub cause_2 : each free ≡ replicate 22 (dead 2 holed (9 ∷ []))
unfolding rules
cause_2 = refl

pub cause_3 : each old ≡ replicate 22 (dead 3 holed (9 ∷ []))
unfolding rules
cause_3 = refl

-- of two dead keys, and of four, the first
abbrev pairs : (j k : Key) → List Call
pairs j k =
    in_same_surject j k ∷ union j k ∷ exchange (j ∷ k ∷ a ∷ b ∷ []) (1 ∷ 2 ∷ 3 ∷ 4 ∷ []) ∷ exchange (a ∷ j ∷ k ∷ past ∷ []) (1 ∷ 2 ∷ 3 ∷ 4 ∷ []) ∷ exchange (a ∷ b ∷ j ∷ k ∷ []) (1 ∷ 2 ∷ 3 ∷ 4 ∷ []) ∷ []

abbrev both : (j k : Key) → List Outcome
both j k = map (step holed []) (pairs j k)

pub first_of : both past free ++ both free past ++ both free old ++ both old free ++ both past old ++ both old past
    ≡ replicate 5 (dead 1 holed []) ++ replicate 5 (dead 2 holed []) ++ replicate 5 (dead 2 holed []) ++ replicate 5 (dead 3 holed []) ++ replicate 5 (dead 1 holed []) ++ replicate 5 (dead 3 holed [])
unfolding rules
first_of = refl

-- the corners of lookup: live; slot 0, with any generation; past the extent though under the capacity, and past both; a free slot, with generation 0 and with any other; the other frame's generation, 0, and the largest numbers
abbrev looks : State → List Key → List Outcome
looks st ks = map (λ k. step st [] (lookup k)) ks

abbrev most : ℕ
most = 18446744073709551615

pub corners : looks holed (a ∷ b ∷ key 0 0 ∷ key 0 5 ∷ key 0 most ∷ key 4 0 ∷ key 4 6 ∷ key 5 5 ∷ key most 5 ∷ key most most ∷ key 2 0 ∷ key 2 7 ∷ key 2 most ∷ key 1 6 ∷ key 3 5 ∷ key 1 0 ∷ key 1 most ∷ [])
    ≡ ok [] holed [] ∷ ok [] holed []
    ∷ replicate 8 (dead 1 holed [])
    ++ replicate 3 (dead 2 holed [])
    ++ replicate 4 (dead 3 holed [])
unfolding rules
corners = refl

-- an empty table has cause 1 for every key
pub empty : looks fresh43 (key 0 0 ∷ key 0 1 ∷ key 1 0 ∷ key 1 1 ∷ key 4 1 ∷ key most most ∷ []) ≡ replicate 6 (dead 1 fresh43 [])
unfolding rules
empty = refl
