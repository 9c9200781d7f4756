-- Renumbering (Rules 14 and Ticket 3), for any order that lists the frames and any that lists the headers, in tables of any capacities with room: its columns, that it renumbers, and that soundness stays.
use mathlib.Core.Path.{◌≡◌, refl, sym, ap, ◌∙◌}
use mathlib.Core.Logic.{◌≢◌}
use mathlib.Core.List.{List, []}
use Prim.Native.Nat.{ℕ, ◌*◌, ◌-◌, ◌≤◌, ◌<◌}
use native.Mathlib.Omega.{arith}
use native.Mathlib.Decide.{ℕ_discrete}
use mathlib.Core.Bool.{Bool, true, false}
use lib.ListN.{length, get_or}
use Rattle.rules.specs.declared.Pool.{Pool}
use Rattle.rules.specs.Tables.{blank, most_slots, last_generation, most_bytes, cell, frame_width, header_width, State}
use Rattle.rules.specs.Calls.{Ready}
use Rattle.rules.specs.Compress.{canonical_frames, canonical_classes, place_of, packed_in, moved_frame, moved_header, renumbered_in, renumbered, generation_after}
use Rattle.rules.proofs.Laws.Lists.{all-at, all_map}
use Rattle.rules.proofs.Laws.Pools.{Pooled, lives, live_in}
use Rattle.rules.proofs.Laws.Count.{exact, lives_le, lives_all, all-used}
use Rattle.rules.proofs.Laws.Freed.{raised_least, raised-most}
use Rattle.rules.proofs.Laws.Marked.{Marked}
use Rattle.rules.proofs.Laws.Working.{View, view, view_path, Working}
use Rattle.rules.proofs.Laws.Places.{place_in, in_at, place_at, upto, upto_in, upto_out, upto_none, upto_live, upto_zero, upto_le, cell-padded, length-padded}
use Rattle.rules.proofs.Laws.Renumber.{Renaming, Renumbered, renumbered-links, renumbered_class_live, renumbered-ring, renumbered-sizes}
use Rattle.rules.proofs.Laws.Order.{Listed, frames_listed, classes_listed}
use Rattle.rules.proofs.Laws.Soundness.{Shaped, shaped_of}
use Rattle.rules.proofs.Laws.Safe.{working, ready}

lives_upto : (n : ℕ) (f : ℕ → ℕ) → ((t : ℕ) → 0 < t → t ≤ n → f t ≢ 0) → (k : ℕ) → k ≤ n → lives (upto n f) k ≡ k
lives_upto n f h = lives_all (upto n f) n (λ t lo hi e. h t lo hi (sym (upto_in n f t lo hi) ∙ e))

-- a list of the live slots is as long as the head says
pub listed_live : {p : Pool} {g n : ℕ → ℕ} → Pooled p g n → (xs : List ℕ) → Listed g xs → length xs ≡ p.live
listed_live {p} {g} {n} P xs L = sym (exact xs g p.extent L.once (all_map (λ s h. let l = live_in P s h in (h, l.0, l.1)) xs L.live) L.whole) ∙ P.number

pub live-fits : {p : Pool} {g n : ℕ → ℕ} → Pooled p g n → p.live ≤ p.capacity
live-fits {p} {g} {n} P = omega (arith, P.fits, P.number, lives_le g p.extent)

-- there and back again
module _ (g : ℕ → ℕ) (xs : List ℕ) (L : Listed g xs) where
  pub there : (s : ℕ) → g s ≢ 0 → (1 ≤ place_of xs s) × (place_of xs s ≤ length xs) × (get_or xs (place_of xs s - 1) 0 ≡ s)
  there s h = place_in s xs (L.whole s h)

  pub again : (t : ℕ) → 0 < t → t ≤ length xs → (g (get_or xs (t - 1) 0) ≢ 0) × (place_of xs (get_or xs (t - 1) 0) ≡ t)
  again t lo hi = (all-at (λ s. g s ≢ 0) (get_or xs (t - 1) 0) xs L.live (in_at xs (t - 1) (omega arith)), omega (arith, place_at xs (t - 1) L.once (omega arith)))

  carried : (f : ℕ → ℕ) (s : ℕ) → g s ≢ 0 → upto (length xs) (λ t. f (get_or xs (t - 1) 0)) (place_of xs s) ≡ f s
  carried f s h = let r = there s h in upto_in (length xs) (λ t. f (get_or xs (t - 1) 0)) (place_of xs s) r.0 r.1 ∙ ap f r.2

-- the slots from 1 in the order of the lists
abbrev pub by_place : (frames classes : List ℕ) → Renaming
by_place fs cs = record { new = place_of fs; old = λ t. get_or fs (t - 1) 0; new_class = place_of cs; old_class = λ d. get_or cs (d - 1) 0 }

-- ---- the columns
unfoldable pub renumbered_view : (elems shared : ℕ) → View → (frames classes : List ℕ) → ℕ → View
renumbered_view a b v fs cs g = record {
  head = record { elems = packed_in a v.head.elems.live; shared = packed_in b v.head.shared.live; generation = g; undo = blank };
  gen = upto (length fs) (λ t. g);
  pay = upto (length fs) (λ t. v.pay (get_or fs (t - 1) 0));
  class = upto (length fs) (λ t. place_of cs (v.class (get_or fs (t - 1) 0)));
  prev = upto (length fs) (λ t. place_of fs (v.prev (get_or fs (t - 1) 0)));
  next = upto (length fs) (λ t. place_of fs (v.next (get_or fs (t - 1) 0)));
  bytes = upto (length fs) (λ t. v.bytes (get_or fs (t - 1) 0));
  count = upto (length cs) (λ d. v.count (get_or cs (d - 1) 0));
  value = upto (length cs) (λ d. v.value (get_or cs (d - 1) 0));
  chain = upto (length cs) (λ d. 0);
  mark = upto (length cs) (λ d. v.mark (get_or cs (d - 1) 0));
  total = upto (length cs) (λ d. v.total (get_or cs (d - 1) 0));
}

module _ (a b : ℕ) (st : State) (fs cs : List ℕ) (g : ℕ) where
  pub frame_column : (f : ℕ) → f < frame_width → cell frame_width (renumbered_in a b st fs cs g).elems f ≡ upto (length fs) (λ t. get_or (moved_frame st fs cs g (get_or fs (t - 1) 0)) f 0)
  unfolding renumbered_in
  frame_column f h = cell-padded frame_width (moved_frame st fs cs g) (λ x. refl) (a * frame_width) fs f h

  pub header_column : (f : ℕ) → f < header_width → cell header_width (renumbered_in a b st fs cs g).shared f ≡ upto (length cs) (λ d. get_or (moved_header st (get_or cs (d - 1) 0)) f 0)
  unfolding renumbered_in
  header_column f h = cell-padded header_width (moved_header st) (λ x. refl) (b * header_width) cs f h

  pub renumbered_view_lem : view (renumbered_in a b st fs cs g) ≡ renumbered_view a b (view st) fs cs g
  unfolding renumbered_in renumbered_view
  renumbered_view_lem = view_path (view (renumbered_in a b st fs cs g)) (renumbered_view a b (view st) fs cs g) refl
      (frame_column 0 (omega arith)) (frame_column 1 (omega arith)) (frame_column 2 (omega arith)) (frame_column 3 (omega arith)) (frame_column 4 (omega arith)) (frame_column 5 (omega arith))
      (header_column 0 (omega arith)) (header_column 1 (omega arith)) (header_column 2 (omega arith)) (header_column 3 (omega arith)) (header_column 4 (omega arith))

-- lists of the frames and of the headers, tables with room for them, and a generation for all frames
pub record Order (v : View) (a b : ℕ) (fs cs : List ℕ) (g : ℕ) : Type 0 where
  pub frames : Listed v.gen fs
  pub headers : Listed v.count cs
  pub room : v.head.elems.live ≤ a
  pub shared-room : v.head.shared.live ≤ b
  pub least : 1 ≤ g
  pub most : g ≤ last_generation

module _ (a b : ℕ) (v : View) (S : Working v) (fs cs : List ℕ) (g : ℕ) (O : Order v a b fs cs g) where
  -- frames, rings, payloads, counts and values are the same up to the renaming
  renumbered-by : Renumbered v (renumbered_view a b v fs cs g) (by_place fs cs)
  unfolding renumbered_view
  renumbered-by = record {
    out = λ s h. let r = there v.gen fs O.frames s h in (rw (upto_in (length fs) (λ t. g) (place_of fs s) r.0 r.1) (omega (arith, O.least)), r.2);
    into = λ t h. let l = upto_live (length fs) (λ t. g) t h in again v.gen fs O.frames t l.0 l.1;
    class-out = λ c h. (there v.count cs O.headers c h).2;
    class-into = λ d h. let l = upto_live (length cs) (λ d. v.count (get_or cs (d - 1) 0)) d h in again v.count cs O.headers d l.0 l.1;
    nexts = carried v.gen fs O.frames (λ z. place_of fs (v.next z));
    prevs = carried v.gen fs O.frames (λ z. place_of fs (v.prev z));
    classes = carried v.gen fs O.frames (λ z. place_of cs (v.class z));
    payloads = carried v.gen fs O.frames v.pay;
    sizes = carried v.gen fs O.frames v.bytes;
    counts = carried v.count cs O.headers v.count;
    values = carried v.count cs O.headers v.value;
    marks = carried v.count cs O.headers v.mark;
    totals = carried v.count cs O.headers v.total;
  }

  renumbered-working : Working (renumbered_view a b v fs cs g)
  unfolding renumbered_view
  renumbered-working = record {
    least = O.least;
    most = O.most;
    elems = rw (← listed_live S.elems fs O.frames) (record {
      fits = rw (listed_live S.elems fs O.frames) O.room;
      number = lives_upto n (λ t. g) (λ t a b. omega (arith, O.least)) n (omega arith);
      chain = record { slots = []; walk = refl; once = tt; free = tt };
      whole = all-used (lives_upto n (λ t. g) (λ t a b. omega arith) n (omega arith));
      none = upto_none n (λ t. g);
      past = λ s h. (upto_out n (λ t. g) s h, upto_out n (λ t. place_of fs (v.next (get_or fs (t - 1) 0))) s h);
    });
    shared = rw (← listed_live S.shared cs O.headers) (record {
      fits = rw (listed_live S.shared cs O.headers) O.shared-room;
      number = lives_upto m (λ d. v.count (get_or cs (d - 1) 0)) (λ d a b. (again v.count cs O.headers d a b).0) m (omega arith);
      chain = record { slots = []; walk = refl; once = tt; free = tt };
      whole = all-used (lives_upto m (λ d. v.count (get_or cs (d - 1) 0)) (λ d a b. (again v.count cs O.headers d a b).0) m (omega arith));
      none = upto_none m (λ d. v.count (get_or cs (d - 1) 0));
      past = λ d h. (upto_out m (λ d. v.count (get_or cs (d - 1) 0)) d h, upto_out m (λ d. 0) d h);
    });
    gens = upto_le n last_generation (λ t. g) (λ t. O.most);
    zeros = λ s h. (blank (λ t. v.pay (get_or fs (t - 1) 0)) s h, blank (λ t. place_of cs (v.class (get_or fs (t - 1) 0))) s h, blank (λ t. place_of fs (v.prev (get_or fs (t - 1) 0))) s h);
    value-zero = upto_zero m (λ d. v.count (get_or cs (d - 1) 0)) (λ d. v.value (get_or cs (d - 1) 0)) (λ d a b. (again v.count cs O.headers d a b).0);
    chain-zero = λ c h. let l = upto_live m (λ d. v.count (get_or cs (d - 1) 0)) c h in upto_in m (λ d. 0) c l.0 l.1;
    marks = marked_upto;
    sizes = renumbered-sizes v (renumbered_view a b v fs cs g) (by_place fs cs) renumbered-by S a
        (upto_le n most_bytes (λ t. v.bytes (get_or fs (t - 1) 0)) (λ t. S.sizes.most (get_or fs (t - 1) 0)))
        (blank (λ t. v.bytes (get_or fs (t - 1) 0)))
        (upto_zero m (λ d. v.count (get_or cs (d - 1) 0)) (λ d. v.total (get_or cs (d - 1) 0)) (λ d a b. (again v.count cs O.headers d a b).0))
        (λ t h. let l = upto_live n (λ t. g) t h in (l.0, omega (arith, l.1, listed_live S.elems fs O.frames, O.room)));
    links = renumbered-links v (renumbered_view a b v fs cs g) (by_place fs cs) renumbered-by S;
    class-live = renumbered_class_live v (renumbered_view a b v fs cs g) (by_place fs cs) renumbered-by S;
    ring = renumbered-ring v (renumbered_view a b v fs cs g) (by_place fs cs) renumbered-by S;
  }
    where
      n : ℕ
      n = length fs

      m : ℕ
      m = length cs

      marked_upto : Marked (upto m (λ d. v.mark (get_or cs (d - 1) 0))) (upto m (λ d. v.count (get_or cs (d - 1) 0)))
      marked_upto d = go (ℕ_discrete (upto m k d) 0)
        where
          k : ℕ → ℕ
          k d = v.count (get_or cs (d - 1) 0)

          go : Dec (upto m k d ≡ 0) → (upto m (λ d. v.mark (get_or cs (d - 1) 0)) d ≤ 1) × (upto m (λ d. v.mark (get_or cs (d - 1) 0)) d ≤ upto m k d)
          go (yes e) =
              let z = upto_zero m k (λ d. v.mark (get_or cs (d - 1) 0)) (λ d a b. (again v.count cs O.headers d a b).0) d e in
              rw z (omega arith, omega arith)
          go (no e) =
              let l = upto_live m k d e in
              rw (upto_in m (λ d. v.mark (get_or cs (d - 1) 0)) d l.0 l.1, upto_in m k d l.0 l.1) (S.marks (get_or cs (d - 1) 0))

      blank : (f : ℕ → ℕ) (s : ℕ) → upto (length fs) (λ t. g) s ≡ 0 → upto (length fs) f s ≡ 0
      blank f = upto_zero (length fs) (λ t. g) f (λ t a b. omega (arith, O.least))

-- the tables are as long as the capacities say
module _ (a b : ℕ) (st : State) (W : Working (view st)) (fs cs : List ℕ) (g : ℕ) where
  pub renumbered-elems : Listed (view st).gen fs → st.head.elems.live ≤ a → length (renumbered_in a b st fs cs g).elems ≡ a * frame_width
  unfolding renumbered_in
  renumbered-elems E room = length-padded frame_width (moved_frame st fs cs g) (λ x. refl) a fs (rw (listed_live W.elems fs E) room)

  pub renumbered-shared : Listed (view st).count cs → st.head.shared.live ≤ b → length (renumbered_in a b st fs cs g).shared ≡ b * header_width
  unfolding renumbered_in
  renumbered-shared C room = length-padded header_width (moved_header st) (λ x. refl) b cs (rw (listed_live W.shared cs C) room)

pub renumbered_lengths : (a b : ℕ) (st : State) → Working (view st) → (fs cs : List ℕ) (g : ℕ) → Listed (view st).gen fs → Listed (view st).count cs → st.head.elems.live ≤ a → st.head.shared.live ≤ b
    → (length (renumbered_in a b st fs cs g).elems ≡ a * frame_width) × (length (renumbered_in a b st fs cs g).shared ≡ b * header_width)
renumbered_lengths a b st W fs cs g E C room shared-room = (renumbered-elems a b st W fs cs g E room, renumbered-shared a b st W fs cs g C shared-room)

-- ---- THE LAW, once for every renumbering: in tables of these capacities, the working soundness, that it renumbers, and shape
module _ (a b : ℕ) (st : State) (W : Working (view st)) (fs cs : List ℕ) (g : ℕ) (O : Order (view st) a b fs cs g) where
  pub renumbers : Renumbered (view st) (view (renumbered_in a b st fs cs g)) (by_place fs cs)
  renumbers = rw (renumbered_view_lem a b st fs cs g) (renumbered-by a b (view st) W fs cs g O)

  pub renumbered_works : Working (view (renumbered_in a b st fs cs g))
  renumbered_works = rw (renumbered_view_lem a b st fs cs g) (renumbered-working a b (view st) W fs cs g O)

  renumbered-shape : (1 ≤ a) × (a ≤ most_slots) × (1 ≤ b) × (b ≤ most_slots) → Shaped (renumbered_in a b st fs cs g)
  unfolding renumbered_in
  renumbered-shape r =
      let n = renumbered_lengths a b st W fs cs g O.frames O.headers O.room O.shared-room in
      record {
        elems = record { some = r.0; small = r.1; long = n.0 };
        shared = record { some = r.2; small = r.3; long = n.1 };
      }

  pub renumbered_keeps : (1 ≤ a) × (a ≤ most_slots) × (1 ≤ b) × (b ≤ most_slots) → Ready (renumbered_in a b st fs cs g)
  renumbered_keeps r = ready (renumbered_in a b st fs cs g) (renumbered-shape r) renumbered_works

  -- the generation of the frame at a place
  pub renumbered_gen : (t : ℕ) → 0 < t → t ≤ length fs → (view (renumbered_in a b st fs cs g)).gen t ≡ g
  renumbered_gen t lo hi = ap (λ (col : ℕ → ℕ). col t) (frame_column a b st fs cs g 0 (omega arith)) ∙ upto_in (length fs) (λ t. g) t lo hi

-- ---- in its own tables
pub after_in_lem : (reset : Bool) (g : ℕ) → 1 ≤ g → g ≤ last_generation → (1 ≤ generation_after reset g) × (generation_after reset g ≤ last_generation)
after_in_lem true g lo hi = (omega arith, omega arith)
after_in_lem false g lo hi = (raised_least g, raised-most g hi)

-- after a compression of either kind
pub own_order : (st : State) → Working (view st) → (fs cs : List ℕ) → Listed (view st).gen fs → Listed (view st).count cs → (reset : Bool)
    → Order (view st) st.head.elems.capacity st.head.shared.capacity fs cs (generation_after reset st.head.generation)
own_order st W fs cs E C reset =
    let r = after_in_lem reset st.head.generation W.least W.most in
    record { frames = E; headers = C; room = live-fits W.elems; shared-room = live-fits W.shared; least = r.0; most = r.1 }

pub own_renumbers : (st : State) → Working (view st) → (fs cs : List ℕ) → Listed (view st).gen fs → Listed (view st).count cs → (reset : Bool)
    → Renumbered (view st) (view (renumbered st fs cs (generation_after reset st.head.generation))) (by_place fs cs)
own_renumbers st W fs cs E C reset = renumbers st.head.elems.capacity st.head.shared.capacity st W fs cs (generation_after reset st.head.generation) (own_order st W fs cs E C reset)

-- the generation that a live frame has then
pub own_gen : (st : State) → Working (view st) → (fs cs : List ℕ) → Listed (view st).gen fs → Listed (view st).count cs → (reset : Bool) (s : ℕ) → (view st).gen s ≢ 0
    → (view (renumbered st fs cs (generation_after reset st.head.generation))).gen (place_of fs s) ≡ generation_after reset st.head.generation
own_gen st W fs cs E C reset s h =
    let t = there (view st).gen fs E s h in
    renumbered_gen st.head.elems.capacity st.head.shared.capacity st W fs cs (generation_after reset st.head.generation) (own_order st W fs cs E C reset) (place_of fs s) t.0 t.1

pub own_keeps : (st : State) → Ready st → (fs cs : List ℕ) → Listed (view st).gen fs → Listed (view st).count cs → (reset : Bool) → Ready (renumbered st fs cs (generation_after reset st.head.generation))
own_keeps st R fs cs E C reset =
    let W = working st R in
    let H = shaped_of st R.shape in
    renumbered_keeps st.head.elems.capacity st.head.shared.capacity st W fs cs (generation_after reset st.head.generation) (own_order st W fs cs E C reset) (H.elems.some, H.elems.small, H.shared.some, H.shared.small)

-- ---- canonical compression
abbrev pub compressed : State → Bool → State
compressed st reset = renumbered st (canonical_frames st) (canonical_classes st) (generation_after reset st.head.generation)

pub canonical_order : (st : State) → Working (view st) → (reset : Bool) → Order (view st) st.head.elems.capacity st.head.shared.capacity (canonical_frames st) (canonical_classes st) (generation_after reset st.head.generation)
canonical_order st W reset = own_order st W (canonical_frames st) (canonical_classes st) (frames_listed st W) (classes_listed st W) reset

-- KEPT: with reset and without
pub compress_keeps : (st : State) (reset : Bool) → Ready st → Ready (compressed st reset)
compress_keeps st reset R = let W = working st R in own_keeps st R (canonical_frames st) (canonical_classes st) (frames_listed st W) (classes_listed st W) reset
