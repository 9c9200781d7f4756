-- Demand 3, for every sequence of calls from fresh tables: the book's claim, proved.
use Rattle.std.specs.Prelude.{◌==◌}
use mathlib.Core.Path.{◌≡◌, sym, ap, ◌∙◌, subst, refl}
use mathlib.Core.Logic.{◌≢◌, inl}
use mathlib.Core.Bool.{true≢false}
use mathlib.Core.List.{List, []}
use Prim.Native.Nat.{ℕ, suc, ◌+◌, ◌≤◌, ◌<◌}
use native.Mathlib.Omega.{arith}
use lib.ListN.{length}
use Rattle.rules.specs.declared.Key.{Key}
use Rattle.rules.specs.declared.Refusal.{Refusal}
use Rattle.rules.specs.declared.Refusal.TheVariants.{Shape, Unsound, Dead, SameClass, NoElement, NoShared, Short, Malformed, NoFile, Version, Sealed, Nothing, OutOfRange}
use Rattle.rules.specs.Notation.{◌<?◌}
use Rattle.rules.specs.Tables.{class_of, State, size_at, is_sealed}
use Rattle.rules.specs.Refusals.{Ruling, refuse, accept, Outcome, outcome, said_refused, number_of}
use Rattle.rules.specs.Runs
use Rattle.rules.specs.Calls.{Call, union, step, AtDoor}
use Rattle.rules.specs.Bytes.{value, Bytes}
use Rattle.rules.specs.RunFile.{StoredRun}
use Rattle.rules.specs.ReadFile.{read_tables, read_file, old_reader, read_step, runs_of}
use Rattle.rules.specs.TwoTables.{TwoOutcome}
use Rattle.rules.specs.Copy.{AtCopy}
use Rattle.rules.specs.History.{History, frames, run_of, others_of, noted, nothing, begun_with, read_into, noted_read}
use Rattle.rules.specs.Demand.{After, start, fresh, call, start_read, read, copy, rewrites, Union, Demand3, start_move, move_to, move_from}
use Rattle.rules.proofs.Door
use Rattle.rules.proofs.Exactly.{exactly_1, exactly_2}
use Rattle.rules.proofs.Laws.Tests.{eq_is, le_is, is_so, is-not}
use Rattle.rules.proofs.Laws.Pools.{if_ne}
use Rattle.rules.proofs.Laws.Working.{view}
use Rattle.rules.proofs.Laws.Rep.{LiveKey}
use Rattle.rules.proofs.Laws.Good.{Good, live_of, run-from, size-from, agrees}
use Rattle.rules.proofs.Laws.Doors.{passed}
use Rattle.rules.proofs.Laws.Rulings.{by_test, by_key}
use Rattle.rules.proofs.Laws.Follows.{follows}
use Rattle.rules.proofs.Laws.Histories.Cleared.{good_start, good-fresh}
use Rattle.rules.proofs.Laws.Copying.{accepted-is, capacities}
use Rattle.rules.proofs.Laws.Histories.Copied.{good-copied}
use Rattle.rules.proofs.Laws.ReadSound.{readable}
use Rattle.rules.proofs.Laws.ReadRules.{accepted-read, runs_of_lem}
use Rattle.rules.proofs.Laws.Histories.Read.{good_read_tables}
use Rattle.rules.proofs.Laws.Moving.{good_move_in, good_move_to, good_move_from}
use Rattle.rules.proofs.Laws.EveryCall.{call-follows}
use Rattle.rules.proofs.Laws.Recalls.{Recalls, remembers, call_recalls, start_recalls, fresh_recalls}
use Rattle.rules.proofs.Laws.UnionFrame.{third-frames, third-headers, rewrites-run}

pub not-accepted : (r : Refusal) → number_of r ≢ 0
not-accepted Shape = omega arith
not-accepted Unsound = omega arith
not-accepted (Dead cause) = omega arith
not-accepted SameClass = omega arith
not-accepted NoElement = omega arith
not-accepted NoShared = omega arith
not-accepted Short = omega arith
not-accepted Malformed = omega arith
not-accepted NoFile = omega arith
not-accepted Version = omega arith
not-accepted Sealed = omega arith
not-accepted Nothing = omega arith
not-accepted OutOfRange = omega arith

-- a refused read is not noted
unread_notes : (h : History) (rs : List StoredRun) (r : Refusal) → noted_read h rs (said_refused r) ≡ h
unread_notes h rs r = if_ne (number_of r) 0 (read_into h rs) h (not-accepted r)

-- at the host's door a good state is met by the call's own rule
pub at-door : {st : State} {h : History} → Good st h → Recalls st h → (lent : List ℕ) (c : Call) (o : Outcome) → AtDoor st lent c o → o ≡ step st lent c
at-door {st} {h} G M lent c o d = Door.passes st lent c o d G.ready.shape (G.ready.sound, remembers st h M)

pub good-call : {st : State} {h : History} → Good st h → Recalls st h → (lent : List ℕ) (c : Call) (o : Outcome) → AtDoor st lent c o → Good o.state (noted h c o.said) × Recalls o.state (noted h c o.said)
good-call {st} {h} G M lent c o d = subst (λ (q : Outcome). Good q.state (noted h c q.said) × Recalls q.state (noted h c q.said)) (sym (at-door G M lent c o d))
    (follows st lent h c _ G (call-follows st lent h G M c), call_recalls st lent h G M c)

-- Ticket 10: an accepted copy of a good state, which has nothing to undo
good-copy : {st : State} {h : History} → Good st h → (target : State) (o : TwoOutcome) → AtCopy target st o → o.said.number ≡ 0 → Good o.target (begun_with h) × Recalls o.target (begun_with h)
good-copy {st} {h} G target o d e =
    let A = accepted-is target st o d e in
    subst (λ (q : State). Good q (begun_with h) × Recalls q (begun_with h)) (sym A.copy)
    (good-copied target.head.elems.capacity target.head.shared.capacity st h G (capacities target A.shape) A.room, inl refl)

-- Ticket 11: a read, the first of all or a later one, accepted or refused; it leaves nothing to undo
read_goes : (st : State) (h : History) (file : List ℕ) → Bytes file → (read_step st file).said.number ≡ 0 → frames h + h.taken ≡ h.put
    → Good (read_step st file).state (read_into h (runs_of file)) × Recalls (read_step st file).state (read_into h (runs_of file))
unfolding read_tables
read_goes st h file b e c =
    let A = accepted-read old_reader st file b e in
    let rs = A.0 in
    let R = readable (value 4 file) st.head.elems.capacity st.head.shared.capacity rs A.1.fits.runs A.1.elems A.1.shared in
    rw (A.1.now, runs_of_lem old_reader st file rs A.1.holds) (good_read_tables st.head.elems.capacity st.head.shared.capacity rs R h c (capacities st A.1.holds.first.shape), inl refl)

pub good-read : {st : State} {h : History} → Good st h → Recalls st h → (file : List ℕ) → Bytes file
    → Good (read_step st file).state (noted_read h (runs_of file) (read_step st file).said) × Recalls (read_step st file).state (noted_read h (runs_of file) (read_step st file).said)
good-read {st} {h} G M file b = go (read_file old_reader st file) refl
  where
    go : (q : Ruling) → read_file old_reader st file ≡ q → Good (outcome st [] q).state (noted_read h (runs_of file) (outcome st [] q).said) × Recalls (outcome st [] q).state (noted_read h (runs_of file) (outcome st [] q).said)
    go (refuse r) e = subst (λ (g : History). Good st g × Recalls st g) (sym (unread_notes h (runs_of file) r)) (G, M)
    go (accept values over st' places) e =
        subst (λ (q : Ruling). Good (outcome st [] q).state (read_into h (runs_of file)) × Recalls (outcome st [] q).state (read_into h (runs_of file))) e
        (read_goes st h file b (ap (λ (q : Ruling). (outcome st [] q).said.number) e) G.counts)

-- whatever the calls were, the state is ready, holds the history, and can be taken back to it
after_both : {st : State} {h : History} → After st h → Good st h × Recalls st h
after_both (start st elems shared e) = (good_start st elems shared e, start_recalls st elems shared e)
after_both (fresh {st = st} {h = h} a elems shared) = let r = after_both a in (good-fresh st elems shared h r.0, fresh_recalls st elems shared h r.1)
after_both (call a lent c o d) = let r = after_both a in good-call r.0 r.1 lent c o d
after_both (start_read st file b e) = read_goes st nothing file b e refl
after_both (read a file b) = let r = after_both a in good-read r.0 r.1 file b
after_both (copy a target o d e) = good-copy (after_both a).0 target o d e
after_both (start_move a target g o d e) = good_move_in (after_both a).0 target nothing refl g o d e
after_both (move_to a t g o d) = let r = after_both t in good_move_to (after_both a).0 r.0 r.1 g o d
after_both (move_from a target g o d) = let r = after_both a in good_move_from r.0 r.1 target g o d

pub after-good : {st : State} {h : History} → After st h → Good st h
after-good a = (after_both a).0

pub after_recalls : {st : State} {h : History} → After st h → Recalls st h
after_recalls a = (after_both a).1

-- and any call can be the next one, with its own rule's outcome
pub goes_on : {st : State} {h : History} → After st h → (lent : List ℕ) (c : Call) → AtDoor st lent c (step st lent c)
goes_on {st} {h} a lent c = passed st lent c (step st lent c) ((after-good a).ready, remembers st h (after_recalls a)) refl

-- no call of such a sequence is refused 1 or 2
passes : (st : State) (h : History) → Good st h → Recalls st h → (lent : List ℕ) (c : Call) (o : Outcome) → AtDoor st lent c o → (o.said.number ≢ 1) × (o.said.number ≢ 2)
passes st h G M lent c o d = ((λ e. true≢false (sym G.ready.shape ∙ (exactly_1 st lent c o d).0 e)), λ e. ((exactly_2 st lent c o d).0 e).1 (G.ready.sound, remembers st h M))

module _ (st : State) (h : History) (G : Good st h) (j k : Key) (lent : List ℕ) where
  -- what is claimed of an accepted union
  abbrev claimed : Ruling → Type 0
  claimed r = (outcome st lent r).said.number ≡ 0 → Union st h j k (outcome st lent r)

  refused : (r : Refusal) → claimed (refuse r)
  refused r e = absurd (not-accepted r e)

  -- the run of `y` goes into that of `x`, and is the smaller
  module _ (x y : Key) (lx : LiveKey (view st) x) (ly : LiveKey (view st) y) (differ : class_of st.elems x.slot ≢ class_of st.elems y.slot) where
    abbrev after : State
    after = Runs.joined st x.slot y.slot

    gone : length (rewrites st after) ≡ length (run_of y h.runs)
    gone = rewrites-run st G.ready x.slot lx.live y (others_of y h.runs) (run-from st h G y ly) differ

    told : size_at st y.slot ≡ length (rewrites st after)
    told = sym (gone ∙ size-from st h G y ly)

  first : LiveKey (view st) j → LiveKey (view st) k → class_of st.elems j.slot ≢ class_of st.elems k.slot → size_at st k.slot ≤ size_at st j.slot → claimed (Runs.keeping st j.slot k.slot j)
  unfolding Runs.keeping
  first lj lk differ l e = record {
    smaller = gone j k lj lk differ ∙ omega (arith, size-from st h G j lj, size-from st h G k lk);
    answered = told j k lj lk differ;
    frames = λ s f m nj nk. third-frames st G.ready j.slot k.slot lj.live lk.live s f m nj nk;
    headers = λ c f m nj nk. third-headers st G.ready j.slot k.slot lj.live lk.live c f m nj nk;
  }

  second : LiveKey (view st) j → LiveKey (view st) k → class_of st.elems j.slot ≢ class_of st.elems k.slot → size_at st j.slot < size_at st k.slot → claimed (Runs.keeping st k.slot j.slot k)
  unfolding Runs.keeping
  second lj lk differ l e = record {
    smaller = gone k j lk lj (λ q. differ (sym q)) ∙ omega (arith, size-from st h G j lj, size-from st h G k lk);
    answered = told k j lk lj (λ q. differ (sym q));
    frames = λ s f m nj nk. third-frames st G.ready k.slot j.slot lk.live lj.live s f m nk nj;
    headers = λ c f m nj nk. third-headers st G.ready k.slot j.slot lk.live lj.live c f m nk nj;
  }

  pub union_claimed : claimed (Runs.union st j k)
  unfolding Runs.union
  union_claimed =
      by_key claimed refused st j _ (λ ej. by_key claimed refused st k _ (λ ek.
      let lj = live_of st j ej in
      let lk = live_of st k ek in
      let cj = class_of st.elems j.slot in
      let ck = class_of st.elems k.slot in
      by_test claimed (cj == ck) _ _ (λ e. refused SameClass) (λ e.
      let n : cj ≢ ck = is-not (cj ≡ ck) (cj == ck) (eq_is cj ck) e in
      let less = le_is (suc (size_at st j.slot)) (size_at st k.slot) in
      by_test claimed (is_sealed st j.slot) _ _ (λ s. refused Sealed) (λ s. by_test claimed (is_sealed st k.slot) _ _ (λ s. refused Sealed) (λ s.
      by_test claimed (size_at st j.slot <? size_at st k.slot) _ _
      (λ f. second lj lk n (is_so (suc (size_at st j.slot) ≤ size_at st k.slot) (size_at st j.slot <? size_at st k.slot) less f))
      (λ f. first lj lk n (let m = is-not (suc (size_at st j.slot) ≤ size_at st k.slot) (size_at st j.slot <? size_at st k.slot) less f in omega arith)))))))

pub demand_3 : Demand3
demand_3 = record {
  passes = λ st h a. passes st h (after-good a) (after_recalls a);
  rings = λ st h a. agrees st h (after-good a);
  unions = λ st h a lent j k o d e.
      let q = at-door (after-good a) (after_recalls a) lent (union j k) o d in
      subst (λ (p : Outcome). Union st h j k p) (sym q) (union_claimed st h (after-good a) j k lent (sym (ap (λ (p : Outcome). p.said.number) q) ∙ e));
}
