-- The ascending scan: its invariant, and that a slot that is still live is the lowest of its ring.
use mathlib.Core.Path.{◌≡◌, refl, sym, ap, ◌∙◌, subst}
use mathlib.Core.Logic.{◌≢◌, ◌⊎◌, inl, inr}
use mathlib.Core.List.{List, ◌++◌, append-nil}
use mathlib.Core.Bool.{Bool, true, false}
use Prim.Native.Nat.{ℕ, suc, ◌+◌, ◌*◌, ◌-◌, ◌≤◌, ◌<◌}
use native.Mathlib.Omega.{arith}
use native.Mathlib.Decide.{ℕ_discrete, dec_lt}
use lib.ListN.{length, get_or, length-append}
use Rattle.rules.specs.Notation.{steps}
use Rattle.rules.specs.Tables.{frame_width, frame_at, cell, generation_of, payload_of, class_of, next_of, bytes_of, count_of, State}
use Rattle.rules.specs.Drains.{ring}
use Rattle.rules.specs.Calls.{Ready}
use Rattle.rules.specs.Compress.{is_lowest, canonical_frames}
use Rattle.rules.proofs.Laws.Lists.{All, In, Out, all_of, all-at, all_parts, in_dec, in_parts, nodup_parts}
use Rattle.rules.proofs.Laws.Steps.{met as met_at, when_met}
use Rattle.rules.proofs.Laws.Pools.{live_in}
use Rattle.rules.proofs.Laws.Working.{View, view, Working}
use Rattle.rules.proofs.Laws.Soundness.{Shaped, shaped_of}
use Rattle.rules.proofs.Laws.Safe.{working}
use Rattle.rules.proofs.Laws.Order.{Looked, free, first, later, looked, Led, scanned, not_led, is_led, frames_to, frames_more, frames-to, frames_listed}
use Rattle.rules.proofs.Laws.Compress.{listed_live, live-fits}
use Rattle.rules.proofs.Laws.Past.{Empty, empty_of, zeros_of, past-elems}
use Rattle.rules.proofs.Laws.Blocks.{frames-ring, ring-length, block_at, block_live, block_next, block_prev}
use Rattle.copies.specs.Parts.{Copiable, copied_frame, Copied}
use Rattle.gather.specs.Elements.{Visitable, Visit, passed, met, carried_frame, Moved, Gathered}

pub order_fits : (st : State) → Ready st → length (canonical_frames st) ≤ st.head.elems.capacity
order_fits st R = let W = working st R in rw (listed_live W.elems (canonical_frames st) (frames_listed st W)) (live-fits W.elems)

-- there is room for what lives where there is room for every slot
pub enough_rows : (st : State) → Ready st → (n : ℕ) → st.head.elems.capacity * frame_width ≤ n → st.head.elems.live * frame_width ≤ n
enough_rows st R n h = omega (arith, live-fits (working st R).elems)

-- THE INVARIANT of the scan: `k` slots are looked at, `t` frames copied
pub record Gathering (st : State) (sc₀ : List ℕ) (g : ℕ) (e sc : List ℕ) (k t : ℕ) : Type 0 where
  pub count : t ≡ length (frames_to st k)
  pub long : length e ≡ length st.elems
  pub others : (f : ℕ) → f < frame_width → f ≢ frame_at.generation → cell frame_width e f ≡ cell frame_width st.elems f
  -- what was copied isn't met again
  pub hit : (x : ℕ) → In x (frames_to st k) → generation_of e x ≡ 0
  pub miss : (x : ℕ) → Out x (frames_to st k) → generation_of e x ≡ generation_of st.elems x
  pub frames : (u : ℕ) → u < t → Moved st g sc u
  pub still : (f s : ℕ) → f < frame_width → t < s → cell frame_width sc f s ≡ cell frame_width sc₀ f s
  pub wide : length sc ≡ length sc₀

pub gathering_start : (st : State) (sc : List ℕ) (g : ℕ) → Gathering st sc g st.elems sc 0 0
gathering_start st sc g = record
    { count = refl; long = refl; others = λ f h n. refl; hit = λ x m. absurd m; miss = λ x o. refl; frames = λ u l. absurd (omega arith); still = λ f s h l. refl; wide = refl }

out_of : (x : ℕ) (xs : List ℕ) → (In x xs → ⊥) → Out x xs
out_of x xs f = all_of (λ y. x ≢ y) xs (λ y m e. f (subst (λ (z : ℕ). In z xs) (sym e) m))

module _ (st : State) (sc₀ : List ℕ) (g : ℕ) (e sc : List ℕ) (k t : ℕ) (Y : Ready st) (room : st.head.elems.live * frame_width ≤ length sc₀) (R : Gathering st sc₀ g e sc k t) (l : k < st.head.elems.extent) where
  abbrev v : View
  v = view st

  W : Working (view st)
  W = working st Y

  H : Shaped st
  H = shaped_of st Y.shape

  nexts : next_of e ≡ next_of st.elems
  nexts = R.others frame_at.next (omega arith) (omega arith)

  classes : class_of e ≡ class_of st.elems
  classes = R.others frame_at.class (omega arith) (omega arith)

  payloads : payload_of e ≡ payload_of st.elems
  payloads = R.others frame_at.payload (omega arith) (omega arith)

  sizes : bytes_of e ≡ bytes_of st.elems
  sizes = R.others frame_at.size (omega arith) (omega arith)

  -- a slot that is still live is the lowest of its ring
  live_leads : generation_of e (suc k) ≢ 0 → (is_lowest st (suc k) ≡ true) × ((view st).gen (suc k) ≢ 0)
  live_leads a = go (is_lowest st (suc k)) (looked st W (suc k))
    where
      out : Out (suc k) (frames_to st k)
      out = out_of (suc k) (frames_to st k) (λ m. a (R.hit (suc k) m))

      go : (b : Bool) → Looked st (suc k) b → (b ≡ true) × ((view st).gen (suc k) ≢ 0)
      go b (free q) = absurd (a (R.miss (suc k) out ∙ q))
      go b (first q f) = (refl, q)
      go b (later q z m d) = absurd (a (R.hit (suc k) ((scanned st W k).whole (v.class (suc k)) (is_led st W k z q m d) (suc k) q refl)))

  -- one that is dead by now is not
  dead-skips : generation_of e (suc k) ≡ 0 → is_lowest st (suc k) ≡ false
  dead-skips a = go (is_lowest st (suc k)) (looked st W (suc k))
    where
      go : (b : Bool) → Looked st (suc k) b → b ≡ false
      go b (free q) = refl
      go b (later q z m d) = refl
      go b (first q f) = met_no (in_dec ℕ_discrete (suc k) (frames_to st k))
        where
          met_no : Dec (In (suc k) (frames_to st k)) → true ≡ false
          met_no (yes m) = absurd (not_led st W k (v.class (suc k)) q f refl (all-at (λ x. Led st k (v.class x)) (suc k) (frames_to st k) (scanned st W k).led m))
          met_no (no m) = absurd (q (sym (R.miss (suc k) (out_of (suc k) (frames_to st k) m)) ∙ a))

  module _ (a : generation_of e (suc k) ≢ 0) where
    abbrev size : ℕ
    size = v.count (v.class (suc k))

    size_is : count_of st.shared (class_of e (suc k)) ≡ (view st).count ((view st).class (suc k))
    size_is = rw classes

    some : 0 < size
    some = let q = W.class-live (suc k) (live_leads a).1 in omega arith

    fits : t + size ≤ length (canonical_frames st)
    fits =
        let p = live_leads a in
        let b = block_at st W k l p.0 p.1 (size - 1) (omega (arith, some)) in
        omega (arith, b.1, R.count, some)

    copiable : Copiable e sc (suc k) t size
    copiable =
        let p = live_leads a in
        let o = order_fits st Y in
        record {
          slots = λ i b. rw nexts (let q = live_in W.elems (steps v.next i (suc k)) (block_live st W k l p.0 p.1 i b) in record { some = q.0; inside = omega (arith, q.1, W.elems.fits, H.elems.long, R.long) });
          room = omega (arith, fits, listed_live W.elems (canonical_frames st) (frames_listed st W), room, R.wide);
          small = omega (arith, fits, o, H.elems.small);
        }

    -- the frames copied are the frames where they go
    frame_is : (i : ℕ) → i < size → copied_frame e (suc k) t size g i ≡ carried_frame st g (get_or (canonical_frames st) (t + i) 0)
    frame_is i b =
        let p = live_leads a in
        let w : get_or (canonical_frames st) (t + i) 0 ≡ steps v.next i (suc k) = rw R.count (block_at st W k l p.0 p.1 i b).0 in
        rw (w, nexts, classes, payloads, sizes, block_prev st W k l p.0 p.1 i b, block_next st W k l p.0 p.1 i b, R.count)

  pub gathering_visit : Visitable e st.shared sc (suc k) t
  gathering_visit = record {
    frame = record { some = omega arith; inside = omega (arith, W.elems.fits, H.elems.long, R.long) };
    header = λ a. rw classes (let q = live_in W.shared (v.class (suc k)) (W.class-live (suc k) (live_leads a).1) in record { some = q.0; inside = omega (arith, q.1, W.shared.fits, H.shared.long) });
    ring = λ a. rw (size_is a) (copiable a);
  }

  next-passed : generation_of e (suc k) ≡ 0 → Gathering st sc₀ g e sc (suc k) t
  next-passed a =
      let q : frames_to st (suc k) ≡ frames_to st k = frames_more st W k false (dead-skips a) ∙ append-nil (frames_to st k) in
      record {
        count = rw q R.count;
        long = R.long;
        others = R.others;
        hit = λ x m. R.hit x (rw q at m);
        miss = λ x o. R.miss x (rw q at o);
        frames = R.frames;
        still = R.still;
        wide = R.wide;
      }

  next-met : (a : generation_of e (suc k) ≢ 0) (e' sc' : List ℕ) → Copied e sc (suc k) t ((view st).count ((view st).class (suc k))) ((view st).count ((view st).class (suc k))) g e' sc'
      → Gathering st sc₀ g e' sc' (suc k) (t + (view st).count ((view st).class (suc k)))
  next-met a e' sc' C = record {
    count = rw (more, length-append, ring-length st W k l p.0 p.1, R.count);
    long = C.long ∙ R.long;
    others = λ f h n. C.others f h n ∙ R.others f h n;
    hit = λ x m. hit' x (in_parts x (frames_to st k) (ring st (suc k)) (rw more at m));
    miss = λ x o. let w = all_parts (λ y. x ≢ y) (frames_to st k) (ring st (suc k)) (rw more at o) in C.miss x (apart x w.1) ∙ R.miss x w.0;
    frames = λ u b. frames' u b (dec_lt u t);
    still = λ f s h b. C.still f s h (inr b) ∙ R.still f s h (omega arith);
    wide = C.wide ∙ R.wide;
  }
    where
      p : (is_lowest st (suc k) ≡ true) × ((view st).gen (suc k) ≢ 0)
      p = live_leads a

      more : frames_to st (suc k) ≡ frames_to st k ++ ring st (suc k)
      more = frames-ring st W k l p.0 p.1

      -- the ring's slots are those that the copy walked
      apart : (x : ℕ) → Out x (ring st (suc k)) → (i : ℕ) → i < v.count (v.class (suc k)) → x ≢ steps (next_of e) i (suc k)
      apart x o i b = rw nexts (all-at (λ y. x ≢ y) (steps v.next i (suc k)) (ring st (suc k)) o (met_at v.next (v.count (v.class (suc k))) i (suc k) b))

      once : All (λ x. Out x (ring st (suc k))) (frames_to st k)
      once = (nodup_parts (frames_to st k) (ring st (suc k)) (rw more at (scanned st W (suc k)).once)).2

      hit' : (x : ℕ) → In x (frames_to st k) ⊎ In x (ring st (suc k)) → generation_of e' x ≡ 0
      hit' x (inl m) = C.miss x (apart x (all-at (λ x. Out x (ring st (suc k))) x (frames_to st k) once m)) ∙ R.hit x m
      hit' x (inr m) = let q = when_met v.next (v.count (v.class (suc k))) (suc k) x m in rw (nexts, q.2) at (C.hit q.0 q.1)

      frames' : (u : ℕ) → u < t + v.count (v.class (suc k)) → Dec (u < t) → Moved st g sc' u
      frames' u b (yes d) f h = C.still f (suc u) h (inl d) ∙ R.frames u d f h
      frames' u b (no d) f h =
          let z : t + (u - t) ≡ u = omega arith in
          let i : u - t < v.count (v.class (suc k)) = omega arith in
          subst (λ (y : ℕ). cell frame_width sc' f (suc y) ≡ get_or (carried_frame st g (get_or (canonical_frames st) y 0)) f 0) z (C.frames (u - t) i f h ∙ ap (λ (vs : List ℕ). get_or vs f 0) (frame_is a (u - t) i))

  pub gathering_next : (e' sc' : List ℕ) (r : ℕ) → Visit e st.shared sc (suc k) t g e' sc' r → Gathering st sc₀ g e' sc' (suc k) r
  gathering_next e' sc' r (passed a q w z) = rw (q, w, z) (next-passed a)
  gathering_next e' sc' r (met a C z) = rw (z, size_is a) (next-met a e' sc' (rw (size_is a) at C))

-- past the extent nothing was met, and all is zero still
gathering_past : (st : State) (sc₀ : List ℕ) (g : ℕ) (e sc : List ℕ) (k t : ℕ) → Ready st → Gathering st sc₀ g e sc k t → (j : ℕ) → st.head.elems.extent * frame_width ≤ j → get_or e j 0 ≡ 0
gathering_past st sc₀ g e sc k t Y R = zeros_of frame_width e st.head.elems.extent (omega arith) (λ f s h l. go f s h l (ℕ_discrete f frame_at.generation) (in_dec ℕ_discrete s (frames_to st k)))
  where
    was : Empty frame_width st.elems st.head.elems.extent
    was = empty_of frame_width st.elems st.head.elems.extent (past-elems st Y)

    go : (f s : ℕ) → f < frame_width → st.head.elems.extent < s → Dec (f ≡ frame_at.generation) → Dec (In s (frames_to st k)) → cell frame_width e f s ≡ 0
    go f s h l (yes z) (yes m) = rw z (R.hit s m)
    go f s h l (yes z) (no m) = rw z (R.miss s (out_of s (frames_to st k) m) ∙ was frame_at.generation s (omega arith) l)
    go f s h l (no n) d = ap (λ (c : ℕ → ℕ). c s) (R.others f h n) ∙ was f s h l

pub gathering_done : (st : State) (sc₀ : List ℕ) (g : ℕ) (e sc : List ℕ) (k t : ℕ) → Ready st → Gathering st sc₀ g e sc k t → k ≡ st.head.elems.extent → Gathered st sc₀ g e sc t
gathering_done st sc₀ g e sc k t Y R z =
    record { all = rw z at R.count ∙ ap length (sym (frames-to st)); long = R.long; past = gathering_past st sc₀ g e sc k t Y R; frames = R.frames; still = R.still; wide = R.wide }
