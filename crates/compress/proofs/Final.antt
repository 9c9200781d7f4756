-- The element side leaves what the shared side rests on; and both together leave what the rule says.
use mathlib.Core.Path.{◌≡◌, refl, sym, ap, ◌∙◌}
use mathlib.Core.Logic.{◌≢◌}
use mathlib.Core.List.{List}
use Prim.Native.Nat.{ℕ, zero, suc, ◌+◌, ◌*◌, ◌-◌, ◌≤◌, ◌<◌}
use native.Mathlib.Nat.{mul-le-mul_right}
use native.Mathlib.Omega.{arith}
use native.Mathlib.Decide.{ℕ_discrete}
use lib.ListN.{length, get_or, length-map}
use Rattle.rules.specs.Tables.{frame_width, header_width, frame_at, cell, class_of, next_free_of, State}
use Rattle.rules.specs.Calls.{Ready}
use Rattle.rules.specs.Compress.{lowest_slots, canonical_frames, canonical_classes, place_of, moved_frame, moved_header, renumbered}
use Rattle.rules.proofs.Laws.Lists.{all-at}
use Rattle.rules.proofs.Laws.Columns.{cell-none}
use Rattle.rules.proofs.Laws.Pools.{live_in}
use Rattle.rules.proofs.Laws.Count.{lives_le}
use Rattle.rules.proofs.Laws.Working.{View, view, Working}
use Rattle.rules.proofs.Laws.Soundness.{Shaped, shaped_of}
use Rattle.rules.proofs.Laws.Safe.{working}
use Rattle.rules.proofs.Laws.Places.{in_at, place_at, upto, upto_is, cells_ext}
use Rattle.rules.proofs.Laws.Order.{Listed, frames_listed, classes_listed}
use Rattle.rules.proofs.Laws.Compress.{listed_live, live-fits, frame_column, header_column, renumbered_lengths}
use Rattle.rules.proofs.Laws.Blocks.{ahead, ahead-next, ahead_le, ahead-some, block_of, runs_of, frames-flat, runs-some, size_of, class_in}
use Rattle.gather.specs.Elements.{carried_frame, Regrouped}
use Rattle.place.specs.Headers.{begins, named, Placeable, Placed}
use Rattle.gather.proofs.Scan.{order_fits}

cell-past : (w : ℕ) (t : List ℕ) (f n u : ℕ) → n ≤ u → ((j : ℕ) → n * w ≤ j → get_or t j 0 ≡ 0) → cell w t f (suc u) ≡ 0
unfolding cell
cell-past w t f n u h k = k (u * w + f) (omega (arith, mul-le-mul_right w h))

-- but for the class, a frame where it goes is what the rule says
off_class : (st : State) (g x f : ℕ) → f < frame_width → f ≢ frame_at.class → get_or (carried_frame st g x) f 0 ≡ get_or (moved_frame st (canonical_frames st) (canonical_classes st) g x) f 0
off_class st g x zero h n = refl
off_class st g x (suc zero) h n = refl
off_class st g x (suc (suc zero)) h n = absurd (n refl)
off_class st g x (suc (suc (suc zero))) h n = refl
off_class st g x (suc (suc (suc (suc zero)))) h n = refl
off_class st g x (suc (suc (suc (suc (suc zero))))) h n = refl
off_class st g x (suc (suc (suc (suc (suc (suc f)))))) h n = absurd (omega arith)

-- a header is what the rule says
all-header : (st : State) (c f : ℕ) → f < header_width → next_free_of st.shared c ≡ 0 → cell header_width st.shared f c ≡ get_or (moved_header st c) f 0
all-header st c zero h e = refl
all-header st c (suc zero) h e = refl
all-header st c (suc (suc zero)) h e = e
all-header st c (suc (suc (suc zero))) h e = refl
all-header st c (suc (suc (suc (suc zero)))) h e = refl
all-header st c (suc (suc (suc (suc (suc f))))) h e = absurd (omega arith)

module _ (st : State) (R : Ready st) (sc₀ : List ℕ) (g : ℕ) (e₁ sc₁ : List ℕ) (G : Regrouped st sc₀ g e₁ sc₁) where
  abbrev v : View
  v = view st

  abbrev fs : List ℕ
  fs = canonical_frames st

  abbrev cs : List ℕ
  cs = canonical_classes st

  abbrev rs : List (List ℕ)
  rs = runs_of st

  W : Working (view st)
  W = working st R

  H : Shaped st
  H = shaped_of st R.shape

  CL : Listed (view st).count (canonical_classes st)
  CL = classes_listed st W

  -- as many classes as runs, and as the head says
  classes-many : length (canonical_classes st) ≡ length (runs_of st)
  unfolding canonical_classes
  classes-many = length-map (lowest_slots st) (class_of st.elems) ∙ sym (length-map (lowest_slots st) _)

  runs-many : length (runs_of st) ≡ st.head.shared.live
  runs-many = sym classes-many ∙ listed_live W.shared cs CL

  in_class : (k : ℕ) → k < length (runs_of st) → k < length (canonical_classes st)
  in_class k l = rw classes-many l

  flat-many : (k : ℕ) → k ≤ length (runs_of st) → ahead (runs_of st) k ≤ length (canonical_frames st)
  flat-many k l = rw (frames-flat st) (ahead_le rs k l)

  size-some : (k : ℕ) → k < length (runs_of st) → ahead (runs_of st) k < ahead (runs_of st) (suc k)
  size-some k l = omega (arith, ahead-next rs k l, size_of st W k l, all-at (λ c. v.count c ≢ 0) (get_or cs k 0) cs CL.live (in_at cs k (in_class k l)))

  -- the class entries after the element side
  first-class : (k : ℕ) → k < length (runs_of st) → class_of e₁ (suc (ahead (runs_of st) k)) ≡ get_or (canonical_classes st) k 0
  first-class k l =
      G.frames (ahead rs k) (omega (arith, size-some k l, flat-many (suc k) l)) frame_at.class (omega arith)
      ∙ class_in st W k (ahead rs k) l (omega arith) (size-some k l)

  -- the blocks that the code finds are the runs
  begins-is : (k : ℕ) → k ≤ length (runs_of st) → begins e₁ st.shared k ≡ suc (ahead (runs_of st) k)
  unfolding begins ahead
  begins-is zero l = refl
  begins-is (suc k) l = rw (begins-is k (omega arith), first-class k l) (omega (arith, ahead-next rs k l, size_of st W k l))

  named-is : (k : ℕ) → k < length (runs_of st) → named e₁ st.shared k ≡ get_or (canonical_classes st) k 0
  named-is k l = rw (begins-is k (omega arith)) (first-class k l)

  class_range : (k : ℕ) → k < length (runs_of st) → (1 ≤ get_or (canonical_classes st) k 0) × (get_or (canonical_classes st) k 0 ≤ st.head.shared.extent)
  class_range k l = live_in W.shared (get_or cs k 0) (all-at (λ c. v.count c ≢ 0) (get_or cs k 0) cs CL.live (in_at cs k (in_class k l)))

  fit : length (canonical_frames st) * frame_width ≤ length e₁
  fit = omega (arith, order_fits st R, H.elems.long, G.long)

  before-all : (k : ℕ) → k ≤ length (runs_of st) → k ≤ ahead (runs_of st) k
  before-all k l = ahead-some rs k (runs-some st W) l

  placeable' : Placeable (length (runs_of st)) e₁ st.shared
  placeable' = record {
    extent = st.head.shared.extent;
    blocks = record {
      many = omega (arith, before-all (length rs) (omega arith), flat-many (length rs) (omega arith), fit);
      ahead = λ k l. rw (begins-is k (omega arith)) (omega (arith, before-all k (omega arith)));
      inside = λ k l. rw (begins-is k (omega arith)) (omega (arith, size-some k l, flat-many (suc k) l, fit));
      header = λ k l. rw (named-is k l) (let c = class_range k l in record { some = c.0; inside = omega (arith, c.1, W.shared.fits, H.shared.long) });
      ends = λ k l. rw (begins-is k l) (omega (arith, flat-many k l, fit));
    };
    wide = omega (arith, W.shared.fits, H.shared.long);
    enough = omega (arith, runs-many, W.shared.number, lives_le v.count st.head.shared.extent);
    spots = λ k l. rw (named-is k l) (class_range k l).1;
    apart = λ k l a b q. apart k l a b (sym (named-is k a) ∙ q ∙ named-is l b);
    past = rw (begins-is (length rs) (omega arith)) (omega (arith, before-all (length rs) (omega arith)));
  }
    where
      apart : (k l : ℕ) → k < length (runs_of st) → l < length (runs_of st) → get_or cs k 0 ≡ get_or cs l 0 → k ≡ l
      apart k l a b q = omega (arith, place_at cs k CL.once (in_class k a), place_at cs l CL.once (in_class l b), ap (place_of cs) q)

  -- what the shared side rests on
  pub placeable : Placeable st.head.shared.live e₁ st.shared
  placeable = rw runs-many at placeable'

  -- ---- what both sides leave
  module _ (e s' : List ℕ) (P' : Placed st.head.shared.live e₁ st.shared e s') where
    P : Placed (length (runs_of st)) e₁ st.shared e s'
    P = rw runs-many P'

    prior : (u : ℕ) → suc u - 1 ≡ u
    prior u = omega arith

    past : (f u : ℕ) → length (canonical_frames st) ≤ u → cell frame_width e₁ f (suc u) ≡ 0
    past f u l = cell-past frame_width e₁ f (length fs) u l G.past

    -- a frame's class is the number of its run
    class_new : (u : ℕ) → u < length (canonical_frames st) → class_of e (suc u) ≡ place_of cs (v.class (get_or fs (suc u - 1) 0))
    class_new u l =
        let b = block_of rs u (rw (frames-flat st) at l) in
        let k = b.run in
        let q : class_of e (suc u) ≡ suc k = P.class k b.few (suc u) (rw (begins-is k (omega (arith, b.few))) (omega (arith, b.low))) (rw (begins-is (suc k) b.few) (omega (arith, b.high))) in
        q ∙ rw (prior u, class_in st W k u b.few b.low b.high) (sym (place_at cs k CL.once (in_class k b.few)))

    class-past : (u : ℕ) → length (canonical_frames st) ≤ u → class_of e (suc u) ≡ 0
    class-past u l = P.past (suc u) (rw (begins-is (length rs) (omega arith)) (omega (arith, flat-many (length rs) (omega arith)))) ∙ past frame_at.class u l

    frame_is : (f : ℕ) → f < frame_width → Dec (f ≡ frame_at.class) → cell frame_width e f ≡ upto (length fs) (λ t. get_or (moved_frame st fs cs g (get_or fs (t - 1) 0)) f 0)
    frame_is f h (yes q) =
        rw q (upto_is (length fs) (λ t. place_of cs (v.class (get_or fs (t - 1) 0))) (class_of e) (cell-none frame_width e frame_at.class) class_new class-past)
    frame_is f h (no q) =
        P.beside.others f h q
        ∙ upto_is (length fs) (λ t. get_or (moved_frame st fs cs g (get_or fs (t - 1) 0)) f 0) (cell frame_width e₁ f) (cell-none frame_width e₁ f)
        (λ u l. G.frames u l f h ∙ off_class st g (get_or fs u 0) f h q ∙ ap (λ (j : ℕ). get_or (moved_frame st fs cs g (get_or fs j 0)) f 0) (sym (prior u))) (λ u l. past f u l)

    -- the headers
    header_new : (f k : ℕ) → f < header_width → k < length (canonical_classes st) → cell header_width s' f (suc k) ≡ get_or (moved_header st (get_or cs (suc k - 1) 0)) f 0
    header_new f k h l =
        let b : k < length rs = rw classes-many at l in
        let n = W.chain-zero (get_or cs k 0) (all-at (λ c. v.count c ≢ 0) (get_or cs k 0) cs CL.live (in_at cs k l)) in
        (λ i. P.headers k b i f h) ∙ ap (cell header_width st.shared f) (named-is k b) ∙ all-header st (get_or cs k 0) f h n
        ∙ ap (λ (j : ℕ). get_or (moved_header st (get_or cs j 0)) f 0) (sym (prior k))

    header_is : (f : ℕ) → f < header_width → cell header_width s' f ≡ upto (length cs) (λ d. get_or (moved_header st (get_or cs (d - 1) 0)) f 0)
    header_is f h = upto_is (length cs) (λ d. get_or (moved_header st (get_or cs (d - 1) 0)) f 0) (cell header_width s' f) (cell-none header_width s' f)
        (λ k l. header_new f k h l) (λ u l. cell-past header_width s' f (length cs) u l (λ j a. P.zeros j (rw classes-many at a)))

    lengths : (length (renumbered st fs cs g).elems ≡ st.head.elems.capacity * frame_width) × (length (renumbered st fs cs g).shared ≡ st.head.shared.capacity * header_width)
    lengths = renumbered_lengths st.head.elems.capacity st.head.shared.capacity st W fs cs g (frames_listed st W) CL (live-fits W.elems) (live-fits W.shared)

    -- THE TABLES are the rule's
    pub elems_final : e ≡ (renumbered st (canonical_frames st) (canonical_classes st) g).elems
    elems_final = cells_ext frame_width st.head.elems.capacity e (renumbered st fs cs g).elems (omega arith) (P.beside.long ∙ G.long ∙ H.elems.long) lengths.0
        (λ f h. frame_is f h (ℕ_discrete f frame_at.class) ∙ sym (frame_column st.head.elems.capacity st.head.shared.capacity st fs cs g f h))

    pub shared_final : s' ≡ (renumbered st (canonical_frames st) (canonical_classes st) g).shared
    shared_final = cells_ext header_width st.head.shared.capacity s' (renumbered st fs cs g).shared (omega arith) (P.long ∙ H.shared.long) lengths.1
        (λ f h. header_is f h ∙ sym (header_column st.head.elems.capacity st.head.shared.capacity st fs cs g f h))
