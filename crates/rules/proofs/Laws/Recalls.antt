-- What can be undone, with the history: the head remembers nothing, or the state taken back holds the runs before the last union. So undo steps both.
use Rattle.std.specs.Prelude.{if◌then◌else◌}
use mathlib.Core.Path.{◌≡◌, refl, sym, ap, subst, ◌∙◌}
use mathlib.Core.Logic.{◌≢◌, ◌⊎◌, inl, inr}
use mathlib.Core.Bool.{Bool, true, false}
use mathlib.Core.List.{List, []}
use Prim.Native.Nat.{ℕ}
use native.Mathlib.Omega.{arith}
use Rattle.rules.specs.declared.Key.{Key}
use Rattle.rules.specs.declared.Memory.{Memory}
use Rattle.rules.specs.declared.Refusal.{Refusal}
use Rattle.rules.specs.declared.Refusal.TheVariants.{Shape, Unsound, Dead, SameClass, NoElement, NoShared, Short, Malformed, NoFile, Version, Nothing, Sealed, OutOfRange}
use Rattle.rules.specs.Tables.{blank, State, elem_side}
use Rattle.rules.specs.Sound.{both_fit}
use Rattle.rules.specs.Refusals.{Ruling, refuse, accept, answer, outcome}
use Rattle.rules.specs.Slots.{empty, fresh}
use Rattle.rules.specs.Undo.{taken_back, Describes, Remembers}
use Rattle.rules.specs.Calls.{Call, len_surject, in_same_surject, get_element, get_shared, get_size, get_total, lookup, set_element, set_shared, check, new_run, insert, union, remove, remove_shared, list, drain, seal, drain_all, clear, undo, exchange, compress, compress_with, write_file, ruling, step, fresh_step}
use Rattle.rules.specs.Keeping.{effect, Joins, Then, Accepted}
use Rattle.rules.specs.History.{History, with_runs, accepted, noted, noted_fresh, nothing}
use Rattle.rules.proofs.Laws.Sides.{live_of}
use Rattle.rules.proofs.Laws.Good.{Good}
use Rattle.rules.proofs.Laws.Remembering.{good-undo}
use Rattle.rules.proofs.Laws.Traced.{undo-union}
use Rattle.rules.proofs.Laws.Dropped.{memory_then, taken-blank, joins_describes}

-- the history taken back
abbrev pub undone : History → History
undone h = with_runs h h.unjoined

abbrev pub Recalls : State → History → Type 0
Recalls st h = (st.head.undo ≡ blank) ⊎ (Describes st × Good (taken_back st) (undone h))

pub remembers : (st : State) (h : History) → Recalls st h → Remembers st
remembers st h (inl e) = inl e
remembers st h (inr r) = inr r.0

-- undo: the state taken back holds the history taken back
pub good_undone : (st : State) (h : History) → Recalls st h → st.head.undo.kept ≢ 0 → (values : List ℕ) → Good (taken_back st) (accepted h undo values)
good_undone st h (inl e) n values = absurd (n (ap (λ (m : Memory). m.kept) e))
good_undone st h (inr r) n values = r.1

-- a union: the state before it held the history before it
joins_recalls : (st st' : State) (h : History) (j k : Key) (values : List ℕ) → Good st h → Joins st st' → Recalls st' (accepted h (union j k) values)
joins_recalls st st' h j k values G J =
    let hx = (live_of (elem_side st) J.x J.frame-x).used in
    let hy = (live_of (elem_side st) J.y J.frame-y).used in
    let e = undo-union st G.ready J.x J.y hx hy J.apart J.unsealed-x J.unsealed-y J.small in
    let F = good-undo st blank G in
    inr (joins_describes st st' G.ready J, rw (J.now, e) (record { ready = F.ready; rings = F.rings; seals = F.seals; sizes = F.sizes; generation = F.generation; counts = F.counts }))

module _ (st : State) (lent : List ℕ) (h : History) (G : Good st h) (M : Recalls st h) where
  abbrev Now : Call → List ℕ → State → Type 0
  Now c values st' = Recalls st' (accepted h c values)

  pub call_recalls : (c : Call) → Recalls (step st lent c).state (noted h c (step st lent c).said)
  call_recalls c = go (ruling st lent c) (memory_then st G.ready lent c)
    where
      same : (st' : State) → st' ≡ st → Recalls st' h
      same st' q = subst (λ (s : State). Recalls s h) (sym q) M

      by : (c : Call) (values : List ℕ) (st' : State) → Then (effect c) st st' → Now c values st'
      by (len_surject k) values st' q = same st' q
      by (in_same_surject j k) values st' q = same st' q
      by (get_element k) values st' q = same st' q
      by (get_shared k) values st' q = same st' q
      by (get_size k) values st' q = same st' q
      by (get_total k) values st' q = same st' q
      by (lookup k) values st' q = same st' q
      by (list k) values st' q = same st' q
      by check values st' q = same st' q
      by write_file values st' q = same st' q
      by (union j k) values st' J = joins_recalls st st' h j k values G J
      by (set_element k payload) values st' q = inl q
      by (set_shared k value) values st' q = inl q
      by (new_run payload value size) values st' q = inl q
      by (insert k payload size) values st' q = inl q
      by (remove k) values st' q = inl q
      by (remove_shared k) values st' q = inl q
      by (drain k) values st' q = inl q
      by (seal k) values st' q = inl q
      by drain_all values st' q = inl q
      by clear values st' q = inl q
      by undo values st' q = inl (ap (λ (s : State). s.head.undo) q ∙ taken-blank st)
      by (exchange keys new) values st' q = inl q
      by (compress reset) values st' q = inl q
      by (compress_with reset) values st' q = inl q

      refused : (r : Refusal) → Recalls st (noted h c (outcome st lent (refuse r)).said)
      refused Shape = M
      refused Unsound = M
      refused (Dead cause) = M
      refused SameClass = M
      refused NoElement = M
      refused NoShared = M
      refused Short = M
      refused Malformed = M
      refused NoFile = M
      refused Version = M
      refused Nothing = M
      refused Sealed = M
      refused OutOfRange = M

      go : (r : Ruling) → Accepted (Then (effect c) st) r → Recalls (outcome st lent r).state (noted h c (outcome st lent r).said)
      go (refuse r) t = refused r
      go (accept values over st' places) t = by c values st' t

-- fresh, the first time and again, accepted or refused
module _ (st : State) (elems shared : ℕ) where
  abbrev ruled : Bool → Ruling
  ruled b = if b then answer [] (empty elems shared 1) else refuse Shape

  pub start_recalls : (fresh_step st elems shared).said.number ≡ 0 → Recalls (fresh_step st elems shared).state nothing
  unfolding fresh empty
  start_recalls = go (both_fit st elems shared)
    where
      go : (b : Bool) → (outcome st [] (ruled b)).said.number ≡ 0 → Recalls (outcome st [] (ruled b)).state nothing
      go true e = inl refl
      go false e = absurd (omega (arith, e))

  pub fresh_recalls : (h : History) → Recalls st h → Recalls (fresh_step st elems shared).state (noted_fresh h (fresh_step st elems shared).said)
  unfolding fresh empty
  fresh_recalls h M = go (both_fit st elems shared)
    where
      go : (b : Bool) → Recalls (outcome st [] (ruled b)).state (noted_fresh h (outcome st [] (ruled b)).said)
      go true = inl refl
      go false = M
