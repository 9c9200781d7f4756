-- Ticket 8, proved: a removed frame's key stays dead.
use Rattle.std.specs.Prelude.{if◌then◌else◌, ◌==◌}
use mathlib.Core.Path.{◌≡◌, refl, sym, ap, ◌∙◌, subst}
use mathlib.Core.Logic.{◌≢◌, ◌⊎◌, inl, inr}
use mathlib.Core.Bool.{Bool, true, false, ◌&&◌, not}
use mathlib.Core.List.{List, [], ◌∷◌, ◌++◌, map}
use Prim.Native.Nat.{ℕ, suc, ◌+◌, ◌≤◌, ◌<◌}
use native.Mathlib.Omega.{arith}
use lib.ListN.{length, get_or}
use Rattle.rules.specs.declared.Key.{Key}
use Rattle.std.specs.Prelude.{Result, Ok, Err}
use Rattle.rules.specs.declared.Cause.{Cause}
use Rattle.rules.specs.declared.Refusal.{Refusal}
use Rattle.rules.specs.declared.Refusal.TheVariants.{NoElement, NoShared, Short, Sealed}
use Rattle.rules.specs.Notation.{along, flat}
use Rattle.rules.specs.Tables
use Rattle.rules.specs.Tables.{last_generation, frame_width, State, found, size_at, sized, is_sealed}
use Rattle.rules.specs.Refusals
use Rattle.rules.specs.Refusals.{Ruling, refuse, Outcome, outcome, when_live}
use Rattle.rules.specs.Reads
use Rattle.rules.specs.Slots.{is_full, raised, overflows}
use Rattle.rules.specs.Runs
use Rattle.rules.specs.Runs.{new_key, key_values}
use Rattle.rules.specs.Drains
use Rattle.rules.specs.Drains.{is_short, record_width}
use Rattle.rules.specs.Compress
use Rattle.rules.specs.Compress.{generation_after, pair_width}
use Rattle.rules.specs.Calls.{Call, new_run, insert, remove, remove_shared, drain, drain_all, clear, compress, compress_with, lookup, ruling, step, Is, AtDoor}
use Rattle.rules.specs.Renaming.{Compresses, canonical, kept}
use Rattle.rules.specs.History.{History, others_of, run_of, runs_but, going_on, inserted_runs, removed_runs, putting_in, renaming, noted, nothing, keys_past, runs_past, read_into, noted_read, frames, accepted, ordered, renamed, moved_into, noted_to, noted_from}
use Rattle.rules.specs.RunFile.{StoredRun}
use Rattle.rules.specs.ReadFile.{read_step, runs_of}
use Rattle.rules.specs.Demand.{Sequence, from_read, and_read, header_of, from_move, moved_to, moved_from}
use Rattle.rules.specs.TwoTables.{TwoOutcome}
use Rattle.rules.specs.Move.{AtMove}
use Rattle.rules.specs.Moving.{Transfers}
use Rattle.rules.specs.Sealing
use Rattle.rules.specs.Stale.{Ends, Quietly, call, unread, copied, ReadIn, first, next, Gives, begun, put, renewed, Since, given, filed, since, Later, now, later, Takes, removed, removed_shared, drained, drained_all, cleared, compressed, TakenOut, taken, StaysDead, unmoved, left, MovedIn, onto, into, landed, moved_away}
use Rattle.rules.proofs.Laws.Lists.{In, Out, all-at, in_parts, in_image, out-not, nodup_parts}
use Rattle.rules.proofs.Laws.Pools.{if_eq, if_ne}
use Rattle.rules.proofs.Laws.Tests.{eq_is, is_true}
use Rattle.rules.proofs.Laws.Headers.{live-frames}
use Rattle.rules.proofs.Laws.Marks.{rises}
use Rattle.rules.proofs.Laws.Moving.{moving}
use Rattle.rules.proofs.Laws.Histories.Renumber.{flat_image}
use Rattle.rules.proofs.Laws.Keys.{key_path}
use Rattle.rules.proofs.Laws.Working.{view}
use Rattle.rules.proofs.Laws.Safe.{working, looked}
use Rattle.rules.proofs.Laws.Fronted.{same_nodup}
use Rattle.rules.proofs.Laws.Rep.{LiveKey, held}
use Rattle.rules.proofs.Laws.Classes.{own-run}
use Rattle.rules.proofs.Laws.Good.{Good, live_of, live_to, key_fronted, run-from}
use Rattle.rules.proofs.Laws.Rulings.{by_test, by_key}
use Rattle.rules.proofs.Laws.Recalls.{Recalls}
use Rattle.rules.proofs.Laws.DemandThree.{not-accepted, at-door, good-call, after-good, after_recalls}
use Rattle.rules.proofs.Laws.Moves.{Moves, asked_of, call_goes, renamed-generation, rise, quiet, not_asked}

-- of a key in a sequence of the premise: it is no newer than the present, and live or older
record Kept (k : Key) (h : History) : Type 0 where
  old : k.generation ≤ h.generation
  here : In k (flat h.runs) ⊎ (k.generation < h.generation)

kept_on : {h h' : History} (k : Key) → Moves h h' → Kept k h → Kept k h'
kept_on {h} {h'} k m K = record { old = omega (arith, m.rises, K.old); here = go K.here }
  where
    next : In k (flat h'.runs) ⊎ (h.generation < h'.generation) → In k (flat h'.runs) ⊎ (k.generation < h'.generation)
    next (inl i) = inl i
    next (inr l) = inr (omega (arith, K.old))

    go : In k (flat h.runs) ⊎ (k.generation < h.generation) → In k (flat h'.runs) ⊎ (k.generation < h'.generation)
    go (inl i) = next (m.left k i)
    go (inr l) = inr (omega (arith, m.rises))

-- one that is not live is older, and does not come back
dead-on : {h h' : History} (k : Key) → Moves h h' → Kept k h → (In k (flat h.runs) → ⊥) → In k (flat h'.runs) → ⊥
dead-on {h} {h'} k m K n i = go K.here (m.came k i)
  where
    go : In k (flat h.runs) ⊎ (k.generation < h.generation) → In k (flat h.runs) ⊎ (h.generation ≤ k.generation) → ⊥
    go (inl a) b = n a
    go (inr a) (inl b) = n b
    go (inr a) (inr b) = omega (arith, a, b)

-- live, as the book says it, and in the history
module _ (st : State) (h : History) (G : Good st h) (k : Key) where
  in_live : Tables.LiveKey st k → In k (flat h.runs)
  in_live l = held (view st) h.runs k G.rings (live_of st k l)

  live_in : In k (flat h.runs) → Tables.LiveKey st k
  live_in m = live_to st G.ready k (all-at (LiveKey (view st)) k (flat h.runs) G.rings.live m)

-- the call that gave the key
module _ (st : State) (lent : List ℕ) (h : History) (G : Good st h) (k : Key) where
  abbrev Given : Call → Ruling → Type 0
  Given c r = (outcome st lent r).said.number ≡ 0 → (outcome st lent r).said.values ≡ key_values k → Kept k (noted h c (outcome st lent r).said)

  abbrev Renewed : Call → Ruling → Type 0
  Renewed c r = (outcome st lent r).said.number ≡ 0 → In k (flat (noted h c (outcome st lent r).said).runs) → Kept k (noted h c (outcome st lent r).said)

  same_key : key_values (new_key st) ≡ key_values k → k ≡ new_key st
  same_key e = key_path k (new_key st) (sym (ap (λ v. get_or v 0 0) e)) (sym (ap (λ v. get_or v 1 0) e))

  no_newer : key_values (new_key st) ≡ key_values k → k.generation ≤ h.generation
  no_newer e = omega (arith, ap (λ v. get_or v 1 0) e, G.generation)

  begun_kept : (size : ℕ) → key_values (new_key st) ≡ key_values k → Kept k (putting_in h (new_key st) size ((new_key st ∷ []) ∷ h.runs))
  begun_kept size v = record { old = no_newer v; here = inl (inl (same_key v)) }

  put-kept : (j : Key) (size : ℕ) → key_values (new_key st) ≡ key_values k → Kept k (putting_in h (new_key st) size (inserted_runs j (new_key st) h.runs))
  unfolding inserted_runs
  put-kept j size v = record { old = no_newer v; here = inl (inr (inl (same_key v))) }

  new_run-gives : (payload value size : ℕ) → Given (new_run payload value size) (Runs.new_run st payload value (sized size))
  unfolding Runs.new_run
  new_run-gives payload value size =
      let P = Given (new_run payload value size) in
      by_test P (is_full st.head.shared) _ _ (λ e n v. absurd (not-accepted NoShared n)) (λ e.
      by_test P (is_full st.head.elems) _ _ (λ f n v. absurd (not-accepted NoElement n)) (λ f n v. begun_kept size v))

  insert-gives : (j : Key) (payload size : ℕ) → Given (insert j payload size) (Runs.insert st j payload (sized size))
  unfolding Runs.insert
  insert-gives j payload size =
      let P = Given (insert j payload size) in
      by_key P (λ r n v. absurd (not-accepted r n)) st j _ (λ l.
      by_test P (is_sealed st j.slot) _ _ (λ f n v. absurd (not-accepted Sealed n)) (λ f.
      by_test P (is_full st.head.elems) _ _ (λ f n v. absurd (not-accepted NoElement n)) (λ f n v. put-kept j size v)))

  renewed-kept : {c : Call} (r : Compresses c) → In k (flat (renaming h (asked_of r) (Sealing.new_key h r)).runs) → Kept k (renaming h (asked_of r) (Sealing.new_key h r))
  renewed-kept r m = record { old = omega (arith, renamed-generation h r k m); here = inl m }

  compress-gives : {c : Call} (r : Compresses c) → Renewed c (ruling st lent c)
  unfolding Compress.compress Compress.compress_with
  compress-gives (canonical asked) = by_test (Renewed (compress asked)) (is_short lent st.head.elems.capacity frame_width) _ _ (λ e n m. absurd (not-accepted Short n)) (λ e n. renewed-kept (canonical asked))
  compress-gives (kept asked) = by_test (Renewed (compress_with asked)) (is_short lent st.head.elems.live pair_width) _ _ (λ e n m. absurd (not-accepted Short n)) (λ e n. renewed-kept (kept asked))

  given-kept : (c : Call) → Good (step st lent c).state (noted h c (step st lent c).said) → (step st lent c).said.number ≡ 0 → Gives (step st lent c) k c → Kept k (noted h c (step st lent c).said)
  given-kept c G' n (begun payload value size v) = new_run-gives payload value size n v
  given-kept c G' n (put j payload size v) = insert-gives j payload size n v
  given-kept c G' n (renewed r l) = compress-gives r n (in_live (step st lent c).state _ G' k l)

-- the keys of a read
past-generation : (k : Key) (a : ℕ) (rs : List StoredRun) → In k (flat (runs_past a rs)) → k.generation ≡ 1
past-generation k a [] m = elim m [ ]
past-generation k a (r ∷ rs) m = go (in_parts k (keys_past a (length r.frames)) (flat (runs_past (a + length r.frames) rs)) m) (past-generation k (a + length r.frames) rs)
  where
    go : In k (keys_past a (length r.frames)) ⊎ In k (flat (runs_past (a + length r.frames) rs)) → (In k (flat (runs_past (a + length r.frames) rs)) → k.generation ≡ 1) → k.generation ≡ 1
    go (inl i) f = ap (λ (j : Key). j.generation) (in_image (λ s. record { slot = s; generation = 1 }) k (along suc (length r.frames) (suc a)) i).2
    go (inr i) f = f i

first-kept : (k : Key) (h : History) (rs : List StoredRun) → In k (flat (read_into h rs).runs) → Kept k (read_into h rs)
first-kept k h rs m = record { old = omega (arith, past-generation k 0 rs m); here = inl m }

-- a state of a sequence is good, and what it remembers is right
good_of : (s : Sequence) → Good s.state s.history
good_of s = after-good s.calls

recalls_of : (s : Sequence) → Recalls s.state s.history
recalls_of s = after_recalls s.calls

-- Ticket 12: what a move does to its source
module _ (s : Sequence) (target : State) (g : ℕ) (o : TwoOutcome) (d : AtMove target s.state g o) where
  abbrev h₀ : History
  h₀ = s.history

  T : Transfers target s.state g o
  T = moving target s.state g o d

  many : frames h₀ ≡ s.state.head.elems.live
  many = let G = good_of s in sym (live-frames (view s.state) (working s.state G.ready) h₀.runs G.rings)

  -- its generation rises by one, if no overflow is said
  cleared_rises : o.said.number ≡ 0 → o.said.over ≡ false → frames h₀ ≢ 0 → raised h₀.generation ≡ h₀.generation + 1
  unfolding Drains.clear overflows
  cleared_rises z q n =
      let e = ((T.from z).cleared (λ k. n (many ∙ k))).1 in
      rises h₀.generation (subst (λ (i : ℕ). (i == last_generation) ≡ false) (good_of s).generation (sym e ∙ q))

  left_moves : o.said.over ≡ false → Moves h₀ (noted_from h₀ o.said)
  left_moves q = go (o.said.number == 0) (eq_is o.said.number 0)
    where
      still : Moves h₀ h₀
      still = record { rises = omega arith; left = λ k i. inl i; came = λ k i. inl i }

      away : (b : Bool) → Is (frames h₀ ≡ 0) b → o.said.number ≡ 0 → Moves h₀ (if b then h₀ else accepted h₀ clear [])
      away true e z = still
      away false e z = record { rises = omega (arith, cleared_rises z q e); left = λ k i. inr (omega (arith, cleared_rises z q e)); came = λ k i. absurd i }

      go : (b : Bool) → Is (o.said.number ≡ 0) b → Moves h₀ (if b then (if frames h₀ == 0 then h₀ else accepted h₀ clear []) else h₀)
      go true z = away (frames h₀ == 0) (eq_is (frames h₀) 0) z
      go false z = still

  -- no key is left
  none_left : o.said.number ≡ 0 → (k : Key) → In k (flat (noted_from h₀ o.said).runs) → ⊥
  none_left z k m = away (frames h₀ == 0) (eq_is (frames h₀) 0) (subst (λ (b : Bool). In k (flat (if b then (if frames h₀ == 0 then h₀ else accepted h₀ clear []) else h₀).runs)) (is_true (o.said.number == 0) (eq_is o.said.number 0) z) m)
    where
      nothing_in : (rs : List Key) → length rs ≡ 0 → In k rs → ⊥
      nothing_in [] e i = i
      nothing_in (r ∷ rs) e i = omega (arith, e)

      away : (b : Bool) → Is (frames h₀ ≡ 0) b → In k (flat (if b then h₀ else accepted h₀ clear []).runs) → ⊥
      away true e i = nothing_in (flat h₀.runs) e i
      away false e i = i

quietly_moves : (s : Sequence) {s' : Sequence} → Quietly s s' → Moves s.history s'.history
quietly_moves s (call lent c o d q) =
    let h = s.history in
    subst (λ (p : Outcome). (Ends s.state p c → ⊥) → Moves h (noted h c p.said)) (sym (at-door (good_of s) (recalls_of s) lent c o d)) (call_goes s.state lent h (good_of s) (recalls_of s) c) q
quietly_moves s (unread file b n) = subst (λ (h : History). Moves s.history h) (sym (if_ne (read_step s.state file).said.number 0 (read_into s.history (runs_of file)) s.history n)) (record { rises = omega arith; left = λ k i. inl i; came = λ k i. inl i })
quietly_moves s (copied target o d e) = record { rises = omega arith; left = λ k i. inl i; came = λ k i. inl i }
quietly_moves s (unmoved from g o d n) =
    subst (λ (h : History). Moves s.history h) (sym (if_ne o.said.number 0 (moved_into s.history from.history g) s.history n)) (record { rises = omega arith; left = λ k i. inl i; came = λ k i. inl i })
quietly_moves s (left target g o d q) = left_moves s target g o d q

-- all keys of the target have the generation given
landed-generation : (h : History) (g : ℕ) (k : Key) → In k (flat (map (map (renamed g (ordered h.runs))) h.runs)) → k.generation ≡ g
unfolding renamed
landed-generation h g k m = let i = in_image (renamed g (ordered h.runs)) k (flat h.runs) (subst (λ (ks : List Key). In k ks) (flat_image (renamed g (ordered h.runs)) h.runs) m) in ap (λ (j : Key). j.generation) i.2

landed-kept : (k : Key) (t h : History) (g : ℕ) → In k (flat (moved_into t h g).runs) → Kept k (moved_into t h g)
landed-kept k t h g m = record { old = omega (arith, landed-generation h g k m); here = inl m }

moved-kept : (k : Key) {s : Sequence} → MovedIn s → Tables.LiveKey s.state k → Kept k s.history
moved-kept k (onto s target g o d e) l = landed-kept k nothing s.history g (in_live _ _ (good_of (from_move s target g o d e)) k l)
moved-kept k (into s t g o d e) l =
    let q : noted_to t.history s.history g o.said ≡ moved_into t.history s.history g = if_eq o.said.number 0 (moved_into t.history s.history g) t.history e in
    subst (λ (h : History). In k (flat h.runs) → Kept k h) (sym q) (landed-kept k t.history s.history g) (in_live _ _ (good_of (moved_to s t g o d)) k l)

-- Ticket 11: a key that a read gave is of the first generation
read_kept : (k : Key) {s : Sequence} → ReadIn s → Tables.LiveKey s.state k → Kept k s.history
read_kept k (first st file b e) l = first-kept k nothing (runs_of file) (in_live _ _ (good_of (from_read st file b e)) k l)
read_kept k (next s file b e) l =
    let q : noted_read s.history (runs_of file) (read_step s.state file).said ≡ read_into s.history (runs_of file) = if_eq (read_step s.state file).said.number 0 (read_into s.history (runs_of file)) s.history e in
    subst (λ (h : History). In k (flat h.runs) → Kept k h) (sym q) (first-kept k s.history (runs_of file)) (in_live _ _ (good_of (and_read s file b)) k l)

since-kept : (k : Key) {s : Sequence} → Since k s → Kept k s.history
since-kept k (given s lent c o d n g) =
    let h = s.history in
    let G = good_of s in
    subst (λ (p : Outcome). Good p.state (noted h c p.said) → p.said.number ≡ 0 → Gives p k c → Kept k (noted h c p.said)) (sym (at-door G (recalls_of s) lent c o d)) (given-kept s.state lent h G k c) (good-call G (recalls_of s) lent c o d).0 n g
since-kept k (filed r l) = read_kept k r l
since-kept k (landed m l) = moved-kept k m l
since-kept k (since {s = s} p q) = kept_on k (quietly_moves s q) (since-kept k p)

-- what is known of a key that is not live
record Lost (k : Key) (s : Sequence) : Type 0 where
  kept : Kept k s.history
  dead : Tables.LiveKey s.state k → ⊥

lost_later : (k : Key) (s : Sequence) {s' : Sequence} → Lost k s → Later s s' → Lost k s'
lost_later k s L now = L
lost_later k s L (later {s' = s'} {s'' = s''} p q) =
    let B = lost_later k s L p in
    let m = quietly_moves s' q in
    record {
      kept = kept_on k m B.kept;
      dead = λ l. dead-on k m B.kept (λ i. B.dead (live_in s'.state s'.history (good_of s') k i)) (in_live s''.state s''.history (good_of s'') k l);
    }

-- the call that takes the key's frame
module _ (st : State) (lent : List ℕ) (h : History) (G : Good st h) (k : Key) (l : LiveKey (view st) k) where
  abbrev Goes : Call → Ruling → Type 0
  Goes c r = (outcome st lent r).said.number ≡ 0 → (Ends st (outcome st lent r) c → ⊥) → In k (flat (noted h c (outcome st lent r).said).runs) → ⊥

  refused : (c : Call) (r : Refusal) → Goes c (refuse r)
  refused c r n = absurd (not-accepted r n)

  -- the run of `j`, in which it is, goes
  run_goes : (j : Key) → LiveKey (view st) j → header_of st j ≡ header_of st k → In k (flat (runs_but j h.runs)) → ⊥
  run_goes j lj e m =
      let d = same_nodup (key_fronted st h G j lj) G.rings.once in
      let i = own-run (view st) (working st G.ready) j (others_of j h.runs) (run-from st h G j lj) k l (sym e) in
      out-not k (flat (runs_but j h.runs)) (all-at (λ x. Out x (flat (runs_but j h.runs))) k (run_of j h.runs) (nodup_parts (run_of j h.runs) (flat (runs_but j h.runs)) d).2 i) m

  frame_goes : In k (flat (removed_runs k h.runs)) → ⊥
  unfolding removed_runs
  frame_goes m = out-not k (others_of k h.runs ++ flat (runs_but k h.runs)) (same_nodup (key_fronted st h G k l) G.rings.once).0 (go (others_of k h.runs) m)
    where
      go : (xs : List Key) → In k (flat (going_on xs (runs_but k h.runs))) → In k (xs ++ flat (runs_but k h.runs))
      go [] m = m
      go (x ∷ xs) m = m

  keys_go : k.generation ≤ h.generation → {c : Call} (r : Compresses c) → asked_of r ≡ false → (not (asked_of r) && overflows st) ≡ false → In k (flat (renaming h (asked_of r) (Sealing.new_key h r)).runs) → ⊥
  keys_go o r n e m =
      let up : raised h.generation ≡ h.generation + 1 = rise st lent h G (subst (λ (b : Bool). (not b && overflows st) ≡ false) n e) in
      let g : generation_after (asked_of r) h.generation ≡ raised h.generation = ap (λ (b : Bool). generation_after b h.generation) n in
      omega (arith, o, up, g, renamed-generation h r k m)

  compress_goes : k.generation ≤ h.generation → {c : Call} (r : Compresses c) → Goes c (ruling st lent c)
  unfolding Compress.compress Compress.compress_with
  compress_goes o (canonical asked) = by_test (Goes (compress asked)) (is_short lent st.head.elems.capacity frame_width) _ _ (λ f. refused (compress asked) Short) (λ f n q. keys_go o (canonical asked) (not_asked (canonical asked) q) (quiet q))
  compress_goes o (kept asked) = by_test (Goes (compress_with asked)) (is_short lent st.head.elems.live pair_width) _ _ (λ f. refused (compress_with asked) Short) (λ f n q. keys_go o (kept asked) (not_asked (kept asked) q) (quiet q))

  goes : k.generation ≤ h.generation → (c : Call) → Takes st k c → Goes c (ruling st lent c)
  unfolding Runs.remove Drains.remove_shared Drains.drain Drains.drain_all Drains.clear
  goes o c removed = by_key (Goes (remove k)) (refused (remove k)) st k _ (λ e n q. frame_goes)
  goes o c (removed_shared j e) = by_key (Goes (remove_shared j)) (refused (remove_shared j)) st j _ (λ lj n q. run_goes j (live_of st j lj) e)
  goes o c (drained j e) = by_key (Goes (drain j)) (refused (drain j)) st j _ (λ lj.
      by_test (Goes (drain j)) (is_short lent (size_at st j.slot) record_width) _ _ (λ f. refused (drain j) Short) (λ f n q. run_goes j (live_of st j lj) e))
  goes o c drained_all = by_test (Goes drain_all) (is_short lent st.head.elems.live record_width) _ _ (λ f. refused drain_all Short) (λ f n q m. m)
  goes o c cleared = λ n q m. m
  goes o c (compressed r) = compress_goes o r

-- it is not live then
taken_lost : (k : Key) (s : Sequence) {s' : Sequence} → Kept k s.history → TakenOut k s s' → Lost k s'
taken_lost k s K (taken l lent c o d n q t) =
    let h = s.history in
    let G = good_of s in
    let f = goes s.state lent h G k (live_of s.state k l) K.old c t in
    record {
      kept = kept_on k (quietly_moves s (call lent c o d q)) K;
      dead = λ m. subst (λ (p : Outcome). p.said.number ≡ 0 → (Ends s.state p c → ⊥) → In k (flat (noted h c p.said).runs) → ⊥) (sym (at-door G (recalls_of s) lent c o d)) f n q (in_live o.state _ (good-call G (recalls_of s) lent c o d).0 k m);
    }
taken_lost k s K (moved_away l target g o d n q) = record {
  kept = kept_on k (left_moves s target g o d q) K;
  dead = λ m. none_left s target g o d n k (in_live o.source _ (good_of (moved_from s target g o d)) k m);
}

-- what the call that looks it up says then
lookup-says : (st : State) (lent : List ℕ) (k : Key) → (Tables.LiveKey st k → ⊥) → (step st lent (lookup k)).said.number ≡ 3
unfolding Reads.lookup
lookup-says st lent k n = go (found st k) refl
  where
    go : (x : Result ℕ Cause) → found st k ≡ x → (outcome st lent (when_live x (λ y. Refusals.answer [] st))).said.number ≡ 3
    go (Ok x) e = absurd (n (e ∙ ap Ok (looked st k x e).same))
    go (Err cause) e = refl

lookup_refuses : (s : Sequence) (k : Key) → (Tables.LiveKey s.state k → ⊥) → (lent : List ℕ) (o : Outcome) → AtDoor s.state lent (lookup k) o → o.said.number ≡ 3
lookup_refuses s k n lent o d = ap (λ (p : Outcome). p.said.number) (at-door (good_of s) (recalls_of s) lent (lookup k) o d) ∙ lookup-says s.state lent k n

pub stays_dead : StaysDead
stays_dead = record { gone = λ k s s' s'' p t l. (lost k s s' s'' p t l).dead; told = λ k s s' s'' p t l. lookup_refuses s'' k (lost k s s' s'' p t l).dead; dead = λ k s s' p n l. (lost_later k s (record { kept = since-kept k p; dead = n }) l).dead }
  where
    lost : (k : Key) (s s' s'' : Sequence) → Since k s → TakenOut k s s' → Later s' s'' → Lost k s''
    lost k s s' s'' p t l = lost_later k s' (taken_lost k s (since-kept k p) t) l
