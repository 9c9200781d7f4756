-- The working form of soundness, over the columns of both tables. That it is the book's `Sound` is proved in Soundness.
use mathlib.Core.Path.{◌≡◌, refl, sym, ap, ◌∙◌}
use mathlib.Core.Logic.{◌≢◌, inl, inr}
use mathlib.Core.List.{List, [], ◌∷◌, ◌++◌, map}
use Prim.Native.Nat.{ℕ, suc, ◌≤◌, ◌<◌}
use native.Mathlib.Omega.{arith}
use lib.ListN.{length, length-append}
use Rattle.rules.specs.declared.Head.{Head}
use Rattle.rules.specs.Notation.{along, sum}
use Rattle.rules.specs.Tables.{last_generation, generation_of, payload_of, class_of, previous_of, next_of, bytes_of, count_of, value_of, next_free_of, mark_of, total_of, State}
use Rattle.rules.proofs.Laws.Lists.{All, In, NoDup, Walk, all_map, all_append, all_parts, in_cut, in_swap, nodup_swap, walk_turn}
use Rattle.rules.proofs.Laws.Pools.{Pooled, live_in}
use Rattle.rules.proofs.Laws.Marked.{Marked}
use Rattle.rules.proofs.Laws.Totals.{Sizes, whole, whole-list, whole-none}
use Rattle.rules.proofs.Laws.Steps.{walk-along}

-- head and columns
pub record View : Type 0 where
  pub head : Head
  pub gen : ℕ → ℕ
  pub pay : ℕ → ℕ
  pub class : ℕ → ℕ
  pub prev : ℕ → ℕ
  pub next : ℕ → ℕ
  pub bytes : ℕ → ℕ
  pub count : ℕ → ℕ
  pub value : ℕ → ℕ
  pub chain : ℕ → ℕ
  pub mark : ℕ → ℕ
  pub total : ℕ → ℕ

abbrev pub view : State → View
view st = record {
  head = st.head;
  gen = generation_of st.elems;
  pay = payload_of st.elems;
  class = class_of st.elems;
  prev = previous_of st.elems;
  next = next_of st.elems;
  bytes = bytes_of st.elems;
  count = count_of st.shared;
  value = value_of st.shared;
  chain = next_free_of st.shared;
  mark = mark_of st.shared;
  total = total_of st.shared;
}

-- Sound 7: previous and next
pub record Links (g p n : ℕ → ℕ) : Type 0 where
  pub next-live : (s : ℕ) → g s ≢ 0 → g (n s) ≢ 0
  pub prev_live : (s : ℕ) → g s ≢ 0 → g (p s) ≢ 0
  pub prev_next : (s : ℕ) → g s ≢ 0 → p (n s) ≡ s
  pub next_prev : (s : ℕ) → g s ≢ 0 → n (p s) ≡ s

-- a frame of the class `c`
pub record Frame (g cl : ℕ → ℕ) (c s : ℕ) : Type 0 where
  pub live : g s ≢ 0
  pub mine : cl s ≡ c

-- the ring of the class `c`, begun at `x`: its frames are all the frames of the class, each once
pub record Ring (g cl n : ℕ → ℕ) (c x : ℕ) (size : ℕ) : Type 0 where
  pub rest : List ℕ
  pub round : Walk n (n x) x rest
  pub once : NoDup (x ∷ rest)
  pub frames : All (Frame g cl c) (x ∷ rest)
  pub whole : (s : ℕ) → Frame g cl c s → In s (x ∷ rest)
  pub sized : suc (length rest) ≡ size

pub record Working (v : View) : Type 0 where
  -- Sound 1
  pub least : 1 ≤ v.head.generation
  pub most : v.head.generation ≤ last_generation
  -- Sound 2, 3, 5 and 6, of each table
  pub elems : Pooled v.head.elems v.gen v.next
  pub shared : Pooled v.head.shared v.count v.chain
  -- Sound 4
  pub gens : (s : ℕ) → v.gen s ≤ last_generation
  -- Sound 6: at a slot that is not live, within the extent or past it
  pub zeros : (s : ℕ) → v.gen s ≡ 0 → (v.pay s ≡ 0) × (v.class s ≡ 0) × (v.prev s ≡ 0)
  pub value-zero : (c : ℕ) → v.count c ≡ 0 → v.value c ≡ 0
  pub chain-zero : (c : ℕ) → v.count c ≢ 0 → v.chain c ≡ 0
  -- Ticket 1: 0 or 1, and 0 where the count is
  pub marks : Marked v.mark v.count
  -- Ticket 6: a total is the sum of the sizes of its class
  pub sizes : Sizes v.head.elems.capacity v.gen v.class v.bytes v.total
  -- Sound 7
  pub links : Links v.gen v.prev v.next
  -- Sound 8
  pub class-live : (s : ℕ) → v.gen s ≢ 0 → v.count (v.class s) ≢ 0
  -- Sound 9, 10 and 11: the ring of a class
  pub ring : (c : ℕ) → v.count c ≢ 0 → (x : ℕ) × Ring v.gen v.class v.next c x (v.count c)

-- the ring begun at another of its frames
pub turn : {g cl n : ℕ → ℕ} {c x k y : ℕ} → Ring g cl n c x k → Frame g cl c y → Ring g cl n c y k
turn {g} {cl} {n} {c} {x} {k} {y} r f = go (r.whole y f)
  where
    cut : (p q : List ℕ) → r.rest ≡ p ++ y ∷ q → Ring g cl n c y k
    cut p q e =
        let fr : All (Frame g cl c) ((x ∷ p) ++ y ∷ q) = rw e at r.frames in
        let pr = all_parts (Frame g cl c) (x ∷ p) (y ∷ q) fr in
        record {
          rest = q ++ x ∷ p;
          round = walk_turn n x y p q (rw e at r.round);
          once = nodup_swap (x ∷ p) (y ∷ q) (rw e at r.once);
          frames = all_append (Frame g cl c) (y ∷ q) (x ∷ p) pr.1 pr.0;
          whole = λ s h. in_swap s (x ∷ p) (y ∷ q) (rw e at (r.whole s h));
          sized = rw length-append (omega (arith, r.sized, ap length e, length-append p (y ∷ q)));
        }

    go : In y (x ∷ r.rest) → Ring g cl n c y k
    go (inl e) = rw e r
    go (inr m) = let t = in_cut y r.rest m in cut t.0 t.1 t.2

pub view_path : (v w : View) → v.head ≡ w.head → v.gen ≡ w.gen → v.pay ≡ w.pay → v.class ≡ w.class → v.prev ≡ w.prev → v.next ≡ w.next → v.bytes ≡ w.bytes
    → v.count ≡ w.count → v.value ≡ w.value → v.chain ≡ w.chain → v.mark ≡ w.mark → v.total ≡ w.total → v ≡ w
view_path v w h a b c d e z f g k m t = λ j. record { head = h j; gen = a j; pay = b j; class = c j; prev = d j; next = e j; bytes = z j; count = f j; value = g j; chain = k j; mark = m j; total = t j }

-- Ticket 6: the whole of a class is the sum around its ring; a header that is not live has none
pub ring-over : (k : ℕ) {g cl n b : ℕ → ℕ} {c x size : ℕ} → (r : Ring g cl n c x size) → ((s : ℕ) → g s ≡ 0 → b s ≡ 0) → ((s : ℕ) → g s ≢ 0 → (0 < s) × (s ≤ k)) → whole k cl b c ≡ sum (map b (x ∷ r.rest))
ring-over k {g} {cl} {n} {b} {c} {x} {size} r free inside =
    whole-list k g cl b c (x ∷ r.rest) free r.once (all_map (λ s f. (f.mine, (inside s f.live).0, (inside s f.live).1)) (x ∷ r.rest) r.frames) (λ s l e. r.whole s (record { live = l; mine = e }))

pub ring-bytes : (k : ℕ) {g cl n b : ℕ → ℕ} {c x size : ℕ} → Ring g cl n c x size → ((s : ℕ) → g s ≡ 0 → b s ≡ 0) → ((s : ℕ) → g s ≢ 0 → (0 < s) × (s ≤ k)) → whole k cl b c ≡ sum (map b (along n size x))
ring-bytes k {g} {cl} {n} {b} {c} {x} {size} r free inside =
    ring-over k r free inside
    ∙ ap (λ (l : List ℕ). sum (map b l)) (sym (walk-along n x x (x ∷ r.rest) (refl, r.round)) ∙ ap (λ (m : ℕ). along n m x) r.sized)

pub total-none : (v : View) → Working v → (c : ℕ) → v.count c ≡ 0 → v.total c ≡ 0
total-none v S c e = S.sizes.total c ∙ whole-none v.head.elems.capacity v.gen v.class v.bytes c S.sizes.free (λ s l q. S.class-live s l (ap v.count q ∙ e))

-- a live slot lies in the table
pub live_inside : (v : View) → Working v → (s : ℕ) → v.gen s ≢ 0 → (0 < s) × (s ≤ v.head.elems.capacity)
live_inside v S s h = let l = live_in S.elems s h in (l.0, omega (arith, l.1, S.elems.fits))

pub total-over : (v : View) → Working v → (c x : ℕ) → (r : Ring v.gen v.class v.next c x (v.count c)) → v.total c ≡ sum (map v.bytes (x ∷ r.rest))
total-over v S c x r = S.sizes.total c ∙ ring-over v.head.elems.capacity r S.sizes.free (live_inside v S)

pub total-ring : (v : View) → Working v → (c x : ℕ) → Ring v.gen v.class v.next c x (v.count c) → v.total c ≡ sum (map v.bytes (along v.next (v.count c) x))
total-ring v S c x r = S.sizes.total c ∙ ring-bytes v.head.elems.capacity r S.sizes.free (live_inside v S)

-- neighbours have one class
pub next-class : (v : View) → Working v → (s : ℕ) → v.gen s ≢ 0 → v.class (v.next s) ≡ v.class s
next-class v S s h =
    let l = S.ring (v.class s) (S.class-live s h) in
    let r = turn l.1 (record { live = h; mine = refl }) in
    go r.rest r.round r.frames.1
  where
    go : (xs : List ℕ) → Walk v.next (v.next s) s xs → All (Frame v.gen v.class (v.class s)) xs → v.class (v.next s) ≡ v.class s
    go [] w f = ap v.class w
    go (x ∷ xs) w f = rw w.0 f.0.mine

pub prev_class : (v : View) → Working v → (s : ℕ) → v.gen s ≢ 0 → v.class (v.prev s) ≡ v.class s
prev_class v S s h = sym (next-class v S (v.prev s) (S.links.prev_live s h)) ∙ ap v.class (S.links.next_prev s h)
