-- The runs of the canonical order as blocks: where each begins, which class its frames have, and where their neighbours stand.
use Rattle.std.specs.Prelude.{if◌then◌else◌, ◌==◌}
use mathlib.Core.Path.{◌≡◌, refl, sym, ap, ◌∙◌, subst}
use mathlib.Core.Logic.{◌≢◌}
use mathlib.Core.List.{List, [], ◌∷◌, ◌++◌, map, map-append, append-nil, append_assoc}
use mathlib.Core.Bool.{Bool, true}
use Prim.Native.Nat.{ℕ, zero, suc, ◌+◌, ◌-◌, ◌≤◌, ◌<◌}
use native.Mathlib.Omega.{arith}
use native.Mathlib.Decide.{ℕ_discrete, dec_lt}
use lib.Dec.{T}
use lib.ListN.{length, get_or, length-append, length-map, get_or-append}
use lib.Seq.{get_or-append-add}
use Rattle.rules.specs.Notation.{steps, along, up_to, flat}
use Rattle.rules.specs.Tables.{class_of, State}
use Rattle.rules.specs.Drains.{ring}
use Rattle.rules.specs.Compress.{is_lowest, lowest_slots, canonical_frames, canonical_classes, place_of}
use Rattle.rules.specs.ReadFile.{before_in, after_in}
use Rattle.rules.proofs.Laws.Lists.{All, Walk, all_of, all-at}
use Rattle.rules.proofs.Laws.Steps.{steps-suc, length-along, walk_end}
use Rattle.rules.proofs.Laws.Sums.{keep_of}
use Rattle.rules.proofs.Laws.Pools.{if_eq, if_ne}
use Rattle.rules.proofs.Laws.Working.{View, view, Working}
use Rattle.rules.proofs.Laws.Places.{in_at, place_at}
use Rattle.rules.proofs.Laws.Order.{Looked, free, first, later, looked, Mine, round, lowest_to, frames_to, frames-to, frames_more, lowest_more, flat_append, frames_listed}

-- ---- lists of runs

-- how many frames stand before run `suc k`
unfoldable pub ahead : {A : Type 0} → List (List A) → ℕ → ℕ
ahead rs zero = 0
ahead [] (suc k) = 0
ahead (r ∷ rs) (suc k) = length r + ahead rs k

pub ahead-next : {A : Type 0} (rs : List (List A)) (k : ℕ) → k < length rs → ahead rs (suc k) ≡ ahead rs k + length (get_or rs k [])
unfolding ahead
ahead-next [] k h = absurd (omega arith)
ahead-next (r ∷ rs) zero h = omega arith
ahead-next (r ∷ rs) (suc k) h = omega (arith, ahead-next rs k (omega arith))

pub ahead-all : {A : Type 0} (rs : List (List A)) → ahead rs (length rs) ≡ length (flat rs)
unfolding ahead
ahead-all [] = refl
ahead-all (r ∷ rs) = rw (length-append, ahead-all rs)

pub ahead_le : {A : Type 0} (rs : List (List A)) (k : ℕ) → k ≤ length rs → ahead rs k ≤ length (flat rs)
unfolding ahead
ahead_le rs zero h = omega arith
ahead_le [] (suc k) h = omega arith
ahead_le (r ∷ rs) (suc k) h = rw length-append (omega (arith, ahead_le rs k (omega arith)))

pub ahead-some : {A : Type 0} (rs : List (List A)) (k : ℕ) → All (λ r. 0 < length r) rs → k ≤ length rs → k ≤ ahead rs k
unfolding ahead
ahead-some rs zero a h = omega arith
ahead-some [] (suc k) a h = absurd (omega arith)
ahead-some (r ∷ rs) (suc k) a h = omega (arith, a.0, ahead-some rs k a.1 (omega arith))

-- a run's frames in the flat list
pub flat-at : {A : Type 0} (d : A) (rs : List (List A)) (k i : ℕ) → k < length rs → i < length (get_or rs k []) → get_or (flat rs) (ahead rs k + i) d ≡ get_or (get_or rs k []) i d
unfolding ahead
flat-at d [] k i h l = absurd (omega arith)
flat-at d (r ∷ rs) zero i h l = let z : 0 + i ≡ i = omega arith in rw z (get_or-append r (flat rs) d i l)
flat-at d (r ∷ rs) (suc k) i h l = let z : length r + ahead rs k + i ≡ length r + (ahead rs k + i) = omega arith in rw z (get_or-append-add r (flat rs) (ahead rs k + i) d ∙ flat-at d rs k i (omega arith) l)

-- each frame stands in a run
pub record Block {A : Type 0} (rs : List (List A)) (u : ℕ) : Type 0 where
  pub run : ℕ
  pub few : run < length rs
  pub low : ahead rs run ≤ u
  pub high : u < ahead rs (suc run)

pub block_of : {A : Type 0} (rs : List (List A)) (u : ℕ) → u < length (flat rs) → Block rs u
unfolding ahead
block_of [] u h = absurd (omega arith)
block_of {A} (r ∷ rs) u h = go (dec_lt u (length r)) (λ l. block_of rs (u - length r) l)
  where
    go : Dec (u < length r) → (u - length r < length (flat rs) → Block rs (u - length r)) → Block (r ∷ rs) u
    go (yes l) f = record { run = 0; few = omega arith; low = omega arith; high = omega arith }
    go (no l) f =
        let b = f (omega (arith, length-append r (flat rs))) in
        record { run = suc b.run; few = omega (arith, b.few); low = omega (arith, b.low); high = omega (arith, b.high) }

pub map_at : {B : Type 0} (f : ℕ → B) (d : B) (xs : List ℕ) (k : ℕ) → k < length xs → get_or (map f xs) k d ≡ f (get_or xs k 0)
map_at f d [] k h = absurd (omega arith)
map_at f d (x ∷ xs) zero h = refl
map_at f d (x ∷ xs) (suc k) h = map_at f d xs k (omega arith)

pub get_d-along : (n : ℕ → ℕ) (k i a : ℕ) → i < k → get_or (along n k a) i 0 ≡ steps n i a
get_d-along n zero i a h = absurd (omega arith)
get_d-along n (suc k) zero a h = refl
get_d-along n (suc k) (suc i) a h = get_d-along n k i (n a) (omega arith)

-- ---- the runs of a state
abbrev pub runs_of : State → List (List ℕ)
runs_of st = map (ring st) (lowest_slots st)

pub frames-flat : (st : State) → canonical_frames st ≡ flat (runs_of st)
unfolding canonical_frames
frames-flat st = refl

module _ (st : State) (S : Working (view st)) where
  abbrev v : View
  v = view st

  pub lowest-live : All (λ x. (view st).gen x ≢ 0) (lowest_slots st)
  unfolding lowest_slots
  lowest-live = all_of (λ x. v.gen x ≢ 0) (lowest_slots st) (λ x m. go x (is_lowest st x) (looked st S x) (keep_of (is_lowest st) x (up_to st.head.elems.extent) m).1)
    where
      go : (x : ℕ) (b : Bool) → Looked st x b → T b → v.gen x ≢ 0
      go x b (free e) t = absurd t
      go x b (later h z i l) t = absurd t
      go x b (first h f) t = h

  pub runs-some : All (λ r. 0 < length r) (runs_of st)
  runs-some = go (lowest_slots st) lowest-live
    where
      go : (xs : List ℕ) → All (λ x. v.gen x ≢ 0) xs → All (λ r. 0 < length r) (map (ring st) xs)
      go [] a = tt
      go (x ∷ xs) a = (rw (round st S x a.0).begins (omega arith), go xs a.1)

  abbrev nth : ℕ → ℕ
  nth k = get_or (lowest_slots st) k 0

  nth_live : (k : ℕ) → k < length (runs_of st) → v.gen (get_or (lowest_slots st) k 0) ≢ 0
  nth_live k h = all-at (λ x. v.gen x ≢ 0) (nth k) (lowest_slots st) lowest-live (in_at (lowest_slots st) k (rw length-map at h))

  run_is : (k : ℕ) → k < length (runs_of st) → get_or (runs_of st) k [] ≡ ring st (get_or (lowest_slots st) k 0)
  run_is k h = map_at (ring st) [] (lowest_slots st) k (rw length-map at h)

  class-is : (k : ℕ) → k < length (runs_of st) → get_or (canonical_classes st) k 0 ≡ v.class (get_or (lowest_slots st) k 0)
  unfolding canonical_classes
  class-is k h = map_at (class_of st.elems) 0 (lowest_slots st) k (rw length-map at h)

  pub size_of : (k : ℕ) → k < length (runs_of st) → length (get_or (runs_of st) k []) ≡ (view st).count (get_or (canonical_classes st) k 0)
  size_of k h = rw (run_is k h, class-is k h) (round st S (nth k) (nth_live k h)).sized

  -- the frames of run `suc k` have the class that stands for it
  pub class_in : (k u : ℕ) → k < length (runs_of st) → ahead (runs_of st) k ≤ u → u < ahead (runs_of st) (suc k) → (view st).class (get_or (canonical_frames st) u 0) ≡ get_or (canonical_classes st) k 0
  class_in k u h a b =
      let rs = runs_of st in
      let r = get_or rs k [] in
      let i = u - ahead rs k in
      let l : i < length r = omega (arith, ahead-next rs k h) in
      let z : ahead rs k + i ≡ u = omega arith in
      let w : get_or (flat rs) u 0 ≡ get_or r i 0 = subst (λ (y : ℕ). get_or (flat rs) y 0 ≡ get_or r i 0) z (flat-at 0 rs k i h l) in
      let q : v.class (get_or r i 0) ≡ v.class (nth k) = rw (run_is k h) (all-at (Mine st (nth k)) (get_or (ring st (nth k)) i 0) (ring st (nth k)) (round st S (nth k) (nth_live k h)).frames (in_at (ring st (nth k)) i (rw (run_is k h) at l))).mine in
      rw (frames-flat st, w, class-is k h) q

-- ---- a run's block, at the slot `suc k` from which it is found

-- the lowest slots from fewer slots are the first of those from more
pub prefix : (st : State) (k m : ℕ) → k ≤ m → (q : List ℕ) × (lowest_to st m ≡ lowest_to st k ++ q)
prefix st k zero h = let z : k ≡ 0 = omega arith in ([], rw z)
prefix st k (suc m) h = go (ℕ_discrete k (suc m)) (λ l. prefix st k m l)
  where
    go : Dec (k ≡ suc m) → (k ≤ m → (q : List ℕ) × (lowest_to st m ≡ lowest_to st k ++ q)) → (q : List ℕ) × (lowest_to st (suc m) ≡ lowest_to st k ++ q)
    go (yes e) f = ([], rw (e, append-nil))
    go (no e) f =
        let r = f (omega arith) in
        let more : List ℕ = if is_lowest st (suc m) then suc m ∷ [] else [] in
        (r.0 ++ more, lowest_more st m (is_lowest st (suc m)) refl ∙ rw (r.1, append_assoc))

module _ (st : State) (S : Working (view st)) (k : ℕ) (l : suc k ≤ st.head.elems.extent) (lead : is_lowest st (suc k) ≡ true) (live : (view st).gen (suc k) ≢ 0) where
  abbrev x : ℕ
  x = suc k

  abbrev next : ℕ → ℕ
  next = (view st).next

  abbrev done : List ℕ
  done = frames_to st k

  abbrev size : ℕ
  size = (view st).count ((view st).class (suc k))

  pub frames-ring : frames_to st (suc k) ≡ frames_to st k ++ ring st (suc k)
  frames-ring = frames_more st S k true lead

  order_is : (q : List ℕ) × (canonical_frames st ≡ frames_to st k ++ (ring st (suc k) ++ q))
  order_is =
      let p = prefix st (suc k) st.head.elems.extent l in
      (flat (map (ring st) p.0), frames-to st ∙ ap (λ (xs : List ℕ). flat (map (ring st) xs)) p.1 ∙ rw (map-append, flat_append) (rw (frames-ring, append_assoc)))

  pub ring-length : length (ring st (suc k)) ≡ (view st).count ((view st).class (suc k))
  ring-length = length-along next size x

  pub ring-at : (i : ℕ) → i < (view st).count ((view st).class (suc k)) → get_or (ring st (suc k)) i 0 ≡ steps (view st).next i (suc k)
  ring-at i h = get_d-along next size i x h

  ring-back : steps (view st).next ((view st).count ((view st).class (suc k))) (suc k) ≡ suc k
  ring-back =
      let O = round st S x live in
      let w : Walk next x x (ring st x) = rw O.begins (refl, O.round) in
      rw ring-length at (walk_end next x x (ring st x) w)

  -- the block's frames in the order
  pub block_at : (i : ℕ) → i < (view st).count ((view st).class (suc k)) → (get_or (canonical_frames st) (length (frames_to st k) + i) 0 ≡ steps (view st).next i (suc k)) × (length (frames_to st k) + i < length (canonical_frames st))
  block_at i h =
      let o = order_is in
      let r = ring st x in
      let b : i < length r = rw ring-length h in (
        rw (o.1, get_or-append-add, get_or-append r o.0 0 i b) (ring-at i h),
        rw (o.1, length-append, length-append) (omega arith),
      )

  pub block_live : (i : ℕ) → i < (view st).count ((view st).class (suc k)) → (view st).gen (steps (view st).next i (suc k)) ≢ 0
  block_live i h = rw (ring-at i h) at (all-at (Mine st x) (get_or (ring st x) i 0) (ring st x) (round st S x live).frames (in_at (ring st x) i (rw ring-length h))).live

  -- the number that the block's `suc i`-th frame gets
  number : (i : ℕ) → i < size → place_of (canonical_frames st) (steps next i x) ≡ suc (length done + i)
  number i h = let b = block_at i h in ap (place_of (canonical_frames st)) (sym b.0) ∙ place_at (canonical_frames st) (length done + i) (frames_listed st S).once b.1

  pub block_next : (i : ℕ) → i < (view st).count ((view st).class (suc k)) → place_of (canonical_frames st) ((view st).next (steps (view st).next i (suc k))) ≡ after_in (length (frames_to st k)) ((view st).count ((view st).class (suc k))) i
  unfolding after_in
  block_next i h = rw (← steps-suc next i x) (go (ℕ_discrete (i + 1) size))
    where
      go : Dec (i + 1 ≡ size) → place_of (canonical_frames st) (steps next (suc i) x) ≡ (if i + 1 == size then length done + 1 else length done + i + 2)
      go (yes e) =
          let z : size ≡ suc i = omega arith in
          let c : steps next (suc i) x ≡ x = rw z at ring-back in
          rw (if_eq (i + 1) size (length done + 1) (length done + i + 2) e, c) (number 0 (omega arith) ∙ omega arith)
      go (no e) = rw (if_ne (i + 1) size (length done + 1) (length done + i + 2) e) (number (suc i) (omega arith) ∙ omega arith)

  pub block_prev : (i : ℕ) → i < (view st).count ((view st).class (suc k)) → place_of (canonical_frames st) ((view st).prev (steps (view st).next i (suc k))) ≡ before_in (length (frames_to st k)) ((view st).count ((view st).class (suc k))) i
  unfolding before_in
  block_prev zero h =
      let j = size - 1 in
      let z : size ≡ suc j = omega arith in
      let c : next (steps next j x) ≡ x = sym (steps-suc next j x) ∙ rw z at ring-back in
      let p : (view st).prev x ≡ steps next j x = ap (view st).prev (sym c) ∙ S.links.prev_next (steps next j x) (block_live j (omega arith)) in
      rw (if_eq 0 0 (length done + size) (length done + 0) refl, p) (number j (omega arith) ∙ omega arith)
  block_prev (suc i) h =
      let p : (view st).prev (steps next (suc i) x) ≡ steps next i x = rw (steps-suc next i x) (S.links.prev_next (steps next i x) (block_live i (omega arith))) in
      rw (if_ne (suc i) 0 (length done + size) (length done + suc i) (omega arith), p) (number i (omega arith) ∙ omega arith)
