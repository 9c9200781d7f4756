-- Ticket 10's claims, one by one: for each, a copy or an outcome that breaks it; and the numbers that a copy gives at each test, and no other.
use Prim.Native.Nat.{ℕ, ◌≤◌, ◌<◌}
use native.Mathlib.Omega.{arith}
use mathlib.Core.Path.{◌≡◌, refl, ap}
use mathlib.Core.Logic.{◌⊎◌, inl, inr}
use mathlib.Core.Bool.{Bool, true, false, true≢false, false≢true}
use mathlib.Core.List.{List, [], ◌∷◌, ◌++◌}
use lib.Dec.{T, lit<, lit≤}
use lib.ListN.{get_or}
use Rattle.rules.specs.declared.Cause.{Cause}
use Rattle.rules.specs.declared.Cause.TheVariants.{NoSlot, FreeSlot, OtherGeneration}
use Rattle.std.specs.Prelude.{Result}
use Rattle.rules.specs.declared.Memory.{Memory}
use Rattle.std.specs.Prelude.{Ok, Err}
use Rattle.rules.specs.Tables.{frame_width, header_width, State, Side, elem_side, shared_side, is_live}
use Rattle.rules.specs.Refusals.{Said}
use Rattle.rules.specs.Calls.{get_element}
use Rattle.rules.specs.Copying.{CopyGives, Alike, CopyOf, Copies}
use Rattle.rules.proofs.Cases.{rules, key, ok, refused, pool, at, e, ez, s, mz, zeros}
use Rattle.rules.proofs.CasesUndo.{first_kept}
use Rattle.rules.proofs.Apart.{none}
use Rattle.rules.proofs.Sounds.{trap, trap_unsound, live_range}
use Rattle.rules.proofs.Restored.{chained, chained_sound}
use Rattle.rules.proofs.CasesCopied.{study, dirty, into, left}

live : Result ℕ Cause → Bool
live (Ok x) = true
live (Err cause) = false

number : Cause → ℕ
number NoSlot = 1
number FreeSlot = 2
number OtherGeneration = 3

-- ---- a copy that is none. Its tables are too short
abbrev short : State
short = at (pool 7 5 1 3) (pool 5 4 1 2) 5 [] []

pub misshapen : CopyOf study short → ⊥
unfolding rules
misshapen C = false≢true C.ready.shape

-- a frame is missing, or one too many is live
abbrev missing : State
missing = at (pool 7 5 4 2) (pool 5 2 1 1) 5 (e 0 0 0 0 3 ++ ez 1 20 2 5 5 7 ++ e 0 0 0 0 0 ++ e 0 0 0 0 1 ++ ez 4 51 2 2 2 14 ++ zeros frame_width 2) (s 0 0 0 ++ mz 2 200 0 21 ++ zeros header_width 3)

pub key_lost : CopyOf study missing → ⊥
unfolding rules live
key_lost C = false≢true (ap live ((C.keys (key 4 1)).0 refl))

pub key_gained : CopyOf missing study → ⊥
unfolding rules live
key_gained C = false≢true (ap live ((C.keys (key 4 1)).1 refl))

-- other numbers in one place of the copy: a payload, the generation, an extent, a root
abbrev with : (g pay extent root link last : ℕ) → State
with g pay extent root link last =
    at (pool 7 extent root 3) (pool 5 4 1 2) g
    (e 0 0 0 0 link ++ ez 1 20 2 5 5 7 ++ e 0 0 0 0 last ++ ez 1 pay 4 4 4 11 ++ ez 4 51 2 2 2 14 ++ zeros frame_width 2)
    (s 0 0 3 ++ mz 2 200 0 21 ++ s 0 0 0 ++ mz 1 400 1 11 ++ zeros header_width 1)

as_meant : with 5 40 5 1 3 0 ≡ into 7 5
as_meant = refl

pub other-payload : CopyOf study (with 5 41 5 1 3 0) → ⊥
unfolding rules
other-payload C = let z : ◌≡◌ {A = ℕ} 41 40 = C.runs.payload 4 tt in omega arith

pub other-generation : CopyOf study (with 1 40 5 1 3 0) → ⊥
other-generation C = let z : ◌≡◌ {A = ℕ} 1 5 = C.generation in omega arith

pub extent-kept : CopyOf study (with 5 40 6 1 3 0) → ⊥
unfolding rules
extent-kept C = go C.extents.0
  where
    go : (◌≡◌ {A = ℕ} 6 0) ⊎ T false → ⊥
    go (inl z) = omega (arith, z)
    go (inr h) = h

-- what the source's head remembers, remembered by the copy
pub undo-copied : CopyOf first_kept first_kept → ⊥
undo-copied C = let z : ◌≡◌ {A = ℕ} 1 0 = ap (λ (m : Memory). m.kept) C.undo in omega arith

-- the free slots highest first
pub highest_first : CopyOf study (with 5 40 5 3 0 1) → ⊥
unfolding rules
highest_first C = omega (arith, C.rising.0 0 (λ z. let q : ◌≡◌ {A = ℕ} 1 0 = z in omega arith))

-- ---- reads that do not answer alike: another number, another answer, other places
pub other-read : CopyOf study (with 5 41 5 1 3 0) → ⊥
unfolding rules
other-read C = let z : ◌≡◌ {A = ℕ} 41 40 = ap (λ (said : Said). get_or said.values 0 0) ((C.alike [] (get_element (key 4 1)) refl).said refl) in omega arith

pub unlike_number : Alike (refused 2 study []) (refused 1 study []) → ⊥
unlike_number a = let z : ◌≡◌ {A = ℕ} 2 1 = a.number in omega arith

pub unlike_said : Alike (ok (4 ∷ []) study []) (ok (5 ∷ []) study []) → ⊥
unlike_said a = let z : ◌≡◌ {A = ℕ} 4 5 = ap (λ (said : Said). get_or said.values 0 0) (a.said refl) in omega arith

pub unlike_lent : Alike (refused 7 study (1 ∷ [])) (refused 7 study (2 ∷ [])) → ⊥
unlike_lent a = let z : ◌≡◌ {A = ℕ} 1 2 = ap (λ (l : List ℕ). get_or l 0 0) a.lent in omega arith

-- a dead key with another cause, and one that has the source's cause though it is past the extent
pub other-cause : CopyOf missing (into 7 5) → ⊥
unfolding rules number
other-cause C = let z : ◌≡◌ {A = ℕ} 3 2 = ap number (C.causes (key 4 9)) in omega arith

-- ---- an outcome that changes what it may not
pub source_changed : Copies (dirty 7 5) study (left 0 (into 7 5) (into 7 5)) → ⊥
source_changed C = let z : ◌≡◌ {A = ℕ} 5 6 = ap (λ (st : State). st.head.elems.extent) C.unchanged in omega arith

pub refused_target_changed : Copies (dirty 4 4) study (left 5 (dirty 5 4) study) → ⊥
refused_target_changed C = let z : ◌≡◌ {A = ℕ} 5 4 = C.elems in omega arith

pub refused_target_emptied : Copies (dirty 4 4) study (left 5 (at (pool 4 0 0 0) (pool 4 0 0 0) 1 (zeros frame_width 4) (zeros header_width 4)) study) → ⊥
refused_target_emptied C = let z : ◌≡◌ {A = ℕ} 0 99 = ap (λ (st : State). st.head.elems.extent) (C.refused (λ q. let r : ◌≡◌ {A = ℕ} 5 0 = q in omega arith)) in omega arith

pub no_copy : Copies (dirty 7 5) study (left 0 (with 1 40 5 1 3 0) study) → ⊥
no_copy C = other-generation (C.copy refl)

pub other-capacity : Copies (dirty 7 5) study (left 0 (into 8 5) study) → ⊥
other-capacity C = let z : ◌≡◌ {A = ℕ} 8 7 = C.elems in omega arith

pub other_shared_capacity : Copies (dirty 7 5) study (left 0 (into 7 6) study) → ⊥
other_shared_capacity C = let z : ◌≡◌ {A = ℕ} 6 5 = C.shared in omega arith

-- ---- each number at its test, and no other: the source has one frame, in slot 2, and one header, in slot 2
none_past_2 : (t : Side) → t.pool.extent ≤ 2 → (s : ℕ) × T (is_live t s) × (2 < s) → ⊥
none_past_2 t l h = omega (arith, (live_range t h.0 h.1).1, h.2)

module _ (n : ℕ) where
  pub one_of_source : CopyGives (dirty 7 5) none n → n ≡ 1
  unfolding rules
  one_of_source (inl (h, e)) = e
  one_of_source (inr (h, r)) = absurd (h refl)

  pub one_of_target : CopyGives none trap n → n ≡ 1
  unfolding rules
  one_of_target (inl (h, e)) = e
  one_of_target (inr (h, inl (k, e))) = e
  one_of_target (inr (h, inr (k, r))) = absurd (k refl)

  pub two_of_source : CopyGives (dirty 1 1) trap n → n ≡ 2
  unfolding rules
  two_of_source (inl (h, e)) = absurd (true≢false h)
  two_of_source (inr (h, inl (k, e))) = absurd (true≢false k)
  two_of_source (inr (h, inr (k, inl (u, e)))) = e
  two_of_source (inr (h, inr (k, inr (u, r)))) = absurd (u (λ w. trap_unsound w.0))

  pub five_first : CopyGives (dirty 1 1) chained n → n ≡ 5
  unfolding rules
  five_first (inl (h, e)) = absurd (true≢false h)
  five_first (inr (h, inl (k, e))) = absurd (true≢false k)
  five_first (inr (h, inr (k, inl (u, e)))) = absurd (u (chained_sound, inl refl))
  five_first (inr (h, inr (k, inr (u, inl (m, e))))) = e
  five_first (inr (h, inr (k, inr (u, inr (m, r))))) = absurd (m (2, tt, lit< tt))

  pub then_six : CopyGives (dirty 2 1) chained n → n ≡ 6
  unfolding rules
  then_six (inl (h, e)) = absurd (true≢false h)
  then_six (inr (h, inl (k, e))) = absurd (true≢false k)
  then_six (inr (h, inr (k, inl (u, e)))) = absurd (u (chained_sound, inl refl))
  then_six (inr (h, inr (k, inr (u, inl (m, e))))) = absurd (none_past_2 (elem_side chained) (lit≤ tt) m)
  then_six (inr (h, inr (k, inr (u, inr (m, inl (q, e)))))) = e
  then_six (inr (h, inr (k, inr (u, inr (m, inr (q, r)))))) = absurd (q (2, tt, lit< tt))

  pub then_accepted : CopyGives (dirty 2 2) chained n → n ≡ 0
  unfolding rules
  then_accepted (inl (h, e)) = absurd (true≢false h)
  then_accepted (inr (h, inl (k, e))) = absurd (true≢false k)
  then_accepted (inr (h, inr (k, inl (u, e)))) = absurd (u (chained_sound, inl refl))
  then_accepted (inr (h, inr (k, inr (u, inl (m, e))))) = absurd (none_past_2 (elem_side chained) (lit≤ tt) m)
  then_accepted (inr (h, inr (k, inr (u, inr (m, inl (q, e)))))) = absurd (none_past_2 (shared_side chained) (lit≤ tt) q)
  then_accepted (inr (h, inr (k, inr (u, inr (m, inr (q, e)))))) = e
