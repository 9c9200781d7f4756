-- Drain all: the slot where the scan stands is the lowest live one, and what is still to drain gives the whole.
use Prim.Native.Nat.{ℕ, zero, suc, ◌+◌, ◌*◌, ◌-◌, ◌≤◌, ◌<◌}
use mathlib.Core.Path.{◌≡◌, refl, sym, ap, ◌∙◌}
use mathlib.Core.Logic.{◌≢◌, inl, inr}
use mathlib.Core.Bool.{false}
use mathlib.Core.List.{List, [], ◌∷◌, ◌++◌, append-nil, append_assoc}
use native.Mathlib.Omega.{arith}
use native.Mathlib.Decide.{ℕ_discrete, dec_lt}
use native.Mathlib.Numerals.{unary_clauses}
use borrow.Author.Tests.{le-leb, lt-leb}
use lib.ListN.{length, get_or, drop, length-append}
use lib.Seq.{sets, length-sets}
use Rattle.rules.specs.declared.Pool.{Pool}
use Rattle.rules.specs.Notation.{up_to, keep}
use Rattle.rules.specs.Tables.{next_of, State, elem_side, is_live, size_at}
use Rattle.rules.specs.Slots.{freed}
use Rattle.rules.specs.declared.Refusal.TheVariants.{Short}
use Rattle.rules.specs.Refusals.{outcome, said_accepted, refuse}
use Rattle.rules.specs.Runs.{removed}
use Rattle.rules.specs.Drains.{record_width, drain_records, drained, cleared, lowest, all_records, all_drained, drain_all}
use Rattle.rules.specs.Calls.{Ready, step}
use Rattle.rules.specs.Calls as calls
use Rattle.rules.proofs.Laws.Lists.{In, all-at}
use Rattle.rules.proofs.Laws.Columns.{upd, upd_same, upd_other}
use Rattle.rules.proofs.Laws.Ascending.{Rising, rising-keep}
use Rattle.rules.proofs.Laws.Sums.{keep_in, keep_of, up_to-in}
use Rattle.rules.proofs.Laws.Pools
use Rattle.rules.proofs.Laws.Count.{exact}
use Rattle.rules.proofs.Laws.Sides
use Rattle.rules.proofs.Laws.Working.{View, view}
use Rattle.rules.proofs.Laws.Safe.{safe, working}
use Rattle.rules.proofs.Laws.Stored.{Still, still_then}
use Rattle.rules.proofs.Laws.Remove.{remove_v, removed-on, removed-last, removed-still}
use Rattle.drains.specs.Asked.{Run}
use Rattle.rings.proofs.Written.{sets_append, written_all}
use Rattle.drains.proofs.Draining.{records_long, run-next, live-slot, used-slot}

-- ---- one frame goes

module _ (st : State) (R : Ready st) (x : ℕ) (h : (view st).gen x ≢ 0) where
  gone-both : ((view (removed st x)).gen ≡ upd (view st).gen x 0) × ((removed st x).head.elems ≡ freed st.head.elems x)
  unfolding remove_v
  gone-both = go (ℕ_discrete (size_at st x) 1)
    where
      go : Dec (size_at st x ≡ 1) → ((view (removed st x)).gen ≡ upd (view st).gen x 0) × ((removed st x).head.elems ≡ freed st.head.elems x)
      go (yes e) = let v = removed-last st R x h e in (ap (λ (u : View). u.gen) v, ap (λ (u : View). u.head.elems) v)
      go (no e) = let v = removed-on st R x h e in (ap (λ (u : View). u.gen) v, ap (λ (u : View). u.head.elems) v)

  gone-on : size_at st x ≢ 1 → (removed st x).head.shared ≡ st.head.shared
  unfolding remove_v
  gone-on e = ap (λ (u : View). u.head.shared) (removed-on st R x h e)

  gone-last : size_at st x ≡ 1 → (removed st x).head.shared.live ≡ st.head.shared.live - 1
  unfolding remove_v freed
  gone-last e = ap (λ (u : View). u.head.shared.live) (removed-last st R x h e)

  gone-extent : (removed st x).head.elems.extent ≡ st.head.elems.extent
  unfolding freed
  gone-extent = ap (λ (p : Pool). p.extent) gone-both.1

  gone-live : (removed st x).head.elems.live ≡ st.head.elems.live - 1
  unfolding freed
  gone-live = ap (λ (p : Pool). p.live) gone-both.1

  gone-free : (t : ℕ) → (view st).gen t ≡ 0 → (view (removed st x)).gen t ≡ 0
  gone-free t e = ap (λ (g : ℕ → ℕ). g t) gone-both.0 ∙ upd_other (view st).gen x 0 t (λ q. h (ap (view st).gen (sym q) ∙ e)) ∙ e

  gone-here : (view (removed st x)).gen x ≡ 0
  gone-here = ap (λ (g : ℕ → ℕ). g x) gone-both.0 ∙ upd_same (view st).gen x 0

-- ---- a run goes

pub record RunGone (st : State) (n x : ℕ) (st' : State) : Type 0 where
  pub ready : Ready st'
  pub still : Still st st'
  pub extent : st'.head.elems.extent ≡ st.head.elems.extent
  pub live : st'.head.elems.live ≡ st.head.elems.live - n
  pub runs : 0 < n → st'.head.shared.live ≡ st.head.shared.live - 1
  pub free : (t : ℕ) → (view st).gen t ≡ 0 → (view st').gen t ≡ 0
  pub here : 0 < n → (view st').gen x ≡ 0

pub run-gone : (n : ℕ) (st : State) (x : ℕ) → Run st n x → RunGone st n x (drained n st x)
unfolding drained
run-gone zero st x r = record {
  ready = r.ready;
  still = record { elems = refl; shared = refl; elems-long = refl; shared_long = refl };
  extent = refl;
  live = omega arith;
  runs = λ h. absurd (omega arith);
  free = λ t e. e;
  here = λ h. absurd (omega arith);
}
run-gone (suc n) st x r =
    let R = r.ready in
    let h = used-slot st x (r.live (omega arith)) in
    let g = run-gone n (removed st x) (next_of st.elems x) (run-next st n x r) in
    record {
      ready = g.ready;
      still = still_then (removed-still st x) g.still;
      extent = g.extent ∙ gone-extent st R x h;
      live = omega (arith, g.live, gone-live st R x h);
      runs = λ l. runs R h (r.size l) g (dec_lt 0 n);
      free = λ t z. g.free t (gone-free st R x h t z);
      here = λ l. g.free x (gone-here st R x h);
    }
  where
    runs : (R : Ready st) (h : (view st).gen x ≢ 0) → size_at st x ≡ suc n → RunGone (removed st x) n (next_of st.elems x) (drained n (removed st x) (next_of st.elems x)) → Dec (0 < n)
        → (drained n (removed st x) (next_of st.elems x)).head.shared.live ≡ st.head.shared.live - 1
    runs R h q g (yes l) = g.runs l ∙ ap (λ (p : Pool). p.live - 1) (gone-on st R x h (omega arith))
    runs R h q g (no l) = let z : n ≡ 0 = omega arith in rw z (gone-last st R x h (omega arith))

-- ---- the lowest live slot

first-low : (s : ℕ) (xs : List ℕ) → Rising xs → In s xs → ((t : ℕ) → In t xs → s ≤ t) → get_or xs 0 0 ≡ s
first-low s [] r x3 low = elim x3 [ ]
first-low s (x ∷ xs) r (inl e) low = sym e
first-low s (x ∷ xs) r (inr m) low = absurd (omega (arith, all-at (λ y. x < y) s xs r.0 m, low x (inl refl)))

pub lowest-is : (st : State) → Ready st → (s : ℕ) → (view st).gen s ≢ 0 → ((t : ℕ) → t < s → (view st).gen t ≡ 0) → lowest st ≡ s
unfolding lowest
lowest-is st R s h below =
    let l = Pools.live_in (working st R).elems s h in
    let test = is_live (elem_side st) in
    let all = up_to st.head.elems.extent in
    first-low s (keep test all) (rising-keep test st.head.elems.extent 1)
    (keep_in test s all (up_to-in st.head.elems.extent s l.0 l.1) (Sides.live_to (elem_side st) s (record { low = l.0; high = l.1; used = h })))
    (λ t m. above t (Sides.live_of (elem_side st) t (keep_of test t all m).1).used (dec_lt t s))
  where
    above : (t : ℕ) → (view st).gen t ≢ 0 → Dec (t < s) → s ≤ t
    above t u (yes l) = absurd (u (below t l))
    above t u (no l) = omega arith

-- no frame is left: no run is
pub none_left : (st : State) → Ready st → ((t : ℕ) → t ≤ st.head.elems.extent → (view st).gen t ≡ 0) → st.head.shared.live ≡ 0
none_left st R below =
    let W = working st R in
    sym W.shared.number ∙ exact [] (view st).count st.head.shared.extent tt tt (λ c h.
    let r = W.ring c h in
    let f = r.1.frames.0.live in
    f (below r.0 (Pools.live_in W.elems r.0 f).1))

-- a slot that is no frame's has no class
size-free : (st : State) → Ready st → (s : ℕ) → (view st).gen s ≡ 0 → size_at st s ≡ 0
size-free st R s e = let W = working st R in ap (view st).count (W.zeros s e).1 ∙ W.shared.none

-- so nothing goes with it
pub slot-free : (st : State) (s : ℕ) (out : List ℕ) (written : ℕ) → Ready st → (view st).gen s ≡ 0
    → (st ≡ drained (size_at st s) st s) × (out ≡ sets out (written * record_width) (drain_records (size_at st s) st s))
unfolding drained drain_records
slot-free st s out written R e = let z = size-free st R s e in (rw z, rw z)

all-step : (m : ℕ) (st : State) (s : ℕ) → 0 < m → lowest st ≡ s → drain_records (size_at st s) st s ++ all_records (m - 1) (drained (size_at st s) st s) ≡ all_records m st
unfolding all_records
all-step zero st s h e = absurd (omega arith)
all-step (suc m) st s h e = rw (← e) (simp unary_clauses)

all_drained-step : (m : ℕ) (st : State) (s : ℕ) → 0 < m → lowest st ≡ s → all_drained (m - 1) (drained (size_at st s) st s) ≡ all_drained m st
unfolding all_drained
all_drained-step zero st s h e = absurd (omega arith)
all_drained-step (suc m) st s h e = rw (← e) (simp unary_clauses)

abbrev pub records : State → List ℕ
records st = all_records st.head.shared.live st

abbrev pub emptied : State → State
emptied st = all_drained st.head.shared.live st

-- the scan's invariant: what is done, and what is still to do gives the whole
pub record Scanning (st₀ : State) (out₀ : List ℕ) (st : State) (out : List ℕ) (s : ℕ) : Type 0 where
  pub ready : Ready st
  pub below : (t : ℕ) → t < s → (view st).gen t ≡ 0
  pub still : Still st₀ st
  pub extent : st.head.elems.extent ≡ st₀.head.elems.extent
  pub live : st.head.elems.live ≤ st₀.head.elems.live
  pub room : st₀.head.elems.live * record_width ≤ length out₀
  pub state : emptied st ≡ emptied st₀
  pub done : List ℕ
  pub sized : length done ≡ (st₀.head.elems.live - st.head.elems.live) * record_width
  pub whole : done ++ records st ≡ records st₀
  pub written : out ≡ sets out₀ 0 done

pub scanning_start : (st : State) (out : List ℕ) → Ready st → st.head.elems.live * record_width ≤ length out → Scanning st out st out 1
scanning_start st out R room = record {
  ready = R;
  below = λ t l. let z : t ≡ 0 = omega arith in rw z (working st R).elems.none;
  still = record { elems = refl; shared = refl; elems-long = refl; shared_long = refl };
  extent = refl;
  live = omega arith;
  room = room;
  state = refl;
  done = [];
  sized = omega arith;
  whole = refl;
  written = refl;
}

-- a live slot begins a run, which goes
whole_run : (st : State) → Ready st → (s : ℕ) → (view st).gen s ≢ 0 → RunGone st (size_at st s) s (drained (size_at st s) st s)
whole_run st R s h = run-gone (size_at st s) st s (record { ready = R; live = λ l. live-slot st R s h; size = λ l. refl })

module _ (st₀ : State) (out₀ : List ℕ) (st : State) (out : List ℕ) (s : ℕ) (S : Scanning st₀ out₀ st out s) where
  -- a free slot is passed
  passed : (view st).gen s ≡ 0 → Scanning st₀ out₀ st out (s + 1)
  passed e = record {
    ready = S.ready;
    below = λ t l. go t l (ℕ_discrete t s);
    still = S.still;
    extent = S.extent;
    live = S.live;
    room = S.room;
    state = S.state;
    done = S.done;
    sized = S.sized;
    whole = S.whole;
    written = S.written;
  }
    where
      go : (t : ℕ) → t < s + 1 → Dec (t ≡ s) → (view st).gen t ≡ 0
      go t l (yes q) = rw q e
      go t l (no q) = S.below t (omega arith)

  abbrev before : ℕ
  before = st₀.head.elems.live - st.head.elems.live

  turned : (view st).gen s ≢ 0 → Scanning st₀ out₀ (drained (size_at st s) st s) (sets out (before * record_width) (drain_records (size_at st s) st s)) s
  turned h =
      let n = size_at st s in
      let m = st.head.shared.live in
      let st' = drained n st s in
      let rs = drain_records n st s in
      let f = (safe st S.ready).frames s (live-slot st S.ready s h) in
      let g = whole_run st S.ready s h in
      let low = lowest-is st S.ready s h S.below in
      let fewer : st'.head.shared.live ≡ m - 1 = g.runs f.count-some in
      record {
        ready = g.ready;
        below = λ t l. g.free t (S.below t l);
        still = still_then S.still g.still;
        extent = g.extent ∙ S.extent;
        live = omega (arith, g.live, S.live);
        room = S.room;
        state = ap (λ (k : ℕ). all_drained k st') fewer ∙ all_drained-step m st s f.shared-live low ∙ S.state;
        done = S.done ++ rs;
        sized = length-append S.done rs ∙ omega (arith, S.sized, records_long n st s, g.live, f.count_in, S.live);
        whole = append_assoc S.done rs (records st') ∙ ap (λ (l : List ℕ). S.done ++ l) (ap (λ (k : ℕ). rs ++ all_records k st') fewer ∙ all-step m st s f.shared-live low) ∙ S.whole;
        written =
            let at : 0 + length S.done ≡ before * record_width = omega (arith, S.sized) in
            ap (λ (o : List ℕ). sets o (before * record_width) rs) S.written ∙ ap (λ (i : ℕ). sets (sets out₀ 0 S.done) i rs) (sym at) ∙ sym (sets_append S.done rs out₀ 0);
      }

  pub scanning_long : length out ≡ length out₀
  scanning_long = ap length S.written ∙ length-sets out₀ 0 S.done

  pub scanning_done : st.head.elems.extent < s → (st ≡ emptied st₀) × (out ≡ records st₀ ++ drop (length (records st₀)) out₀)
  unfolding all_drained all_records
  scanning_done l =
      let z : st.head.shared.live ≡ 0 = none_left st S.ready (λ t m. S.below t (omega arith)) in
      let all : S.done ≡ records st₀ = sym (append-nil S.done) ∙ ap (λ (k : ℕ). S.done ++ all_records k st) (sym z) ∙ S.whole in
      let fits : length (records st₀) ≤ length out₀ = rw (← all) (omega (arith, S.sized, S.room)) in
      (ap (λ (k : ℕ). all_drained k st) (sym z) ∙ S.state, S.written ∙ ap (λ (vs : List ℕ). sets out₀ 0 vs) all ∙ written_all (records st₀) out₀ fits)

pub scanning_next : (st₀ : State) (out₀ : List ℕ) (st : State) (out : List ℕ) (s : ℕ) → Scanning st₀ out₀ st out s → (st' : State) (out' : List ℕ)
    → st' ≡ drained (size_at st s) st s → out' ≡ sets out ((st₀.head.elems.live - st.head.elems.live) * record_width) (drain_records (size_at st s) st s) → Scanning st₀ out₀ st' out' (s + 1)
unfolding drained drain_records
scanning_next st₀ out₀ st out s S st' out' e f = go (ℕ_discrete ((view st).gen s) 0)
  where
    go : Dec ((view st).gen s ≡ 0) → Scanning st₀ out₀ st' out' (s + 1)
    go (yes z) =
        let none = size-free st S.ready s z in
        rw (e, f, none) (passed st₀ out₀ st out s S z)
    go (no h) =
        let R = S.ready in
        let n = ((safe st R).frames s (live-slot st R s h)).count-some in
        rw (e, f) (passed st₀ out₀ _ _ s (turned st₀ out₀ st out s S h) ((whole_run st R s h).here n))

-- drain all, by its two ways
module _ (st : State) (lent : List ℕ) where
  pub drain_all-7 : length lent < st.head.elems.live * record_width → outcome st lent (refuse Short) ≡ step st lent calls.drain_all
  unfolding drain_all
  drain_all-7 l = simp (le-leb _ _ l)

  pub drain_all-done : (s : State) (out : List ℕ) → st.head.elems.live * record_width ≤ length lent → s ≡ cleared (emptied st) → out ≡ records st ++ drop (length (records st)) lent
      → record { said = said_accepted (st.head.elems.live ∷ []) false; state = s; lent = out } ≡ step st lent calls.drain_all
  unfolding drain_all
  drain_all-done s out l e f =
      let fits : st.head.elems.live * record_width < suc (length lent) = omega arith in
      simp (lt-leb _ _ fits) (rw (e, f))
