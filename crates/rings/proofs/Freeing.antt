-- Remove shared: the invariant of the loop that frees a ring, and the call's ways.
use Rattle.std.specs.Prelude.{◌==◌}
use Prim.Native.Nat.{ℕ, zero, suc, ◌-◌, ◌≤◌, ◌<◌}
use mathlib.Core.Path.{◌≡◌, refl, sym, ap, ◌∙◌}
use mathlib.Core.List.{List, [], ◌∷◌}
use native.Mathlib.Omega.{arith}
use lib.ListN.{length}
use Rattle.rules.specs.declared.Head.{Head}
use Rattle.rules.specs.declared.Key.{Key}
use Rattle.std.specs.Prelude.{Ok, Err, ⊤}
use Rattle.rules.specs.declared.Step.{Step}
use Rattle.rules.specs.declared.Cause.{Cause}
use Rattle.rules.specs.declared.Refusal.TheVariants.{Dead}
use Rattle.rules.specs.Tables.{last_generation, frame_width, class_of, next_of, count_of, value_of, State, state_of, with_generation, found, size_at}
use Rattle.rules.specs.Refusals.{outcome, refuse}
use Rattle.rules.specs.Slots.{freed, free_element, free_shared, raised, raise, overflows}
use Rattle.rules.specs.Answers.{one_value, after}
use Rattle.rules.specs.Drains.{free_ring, remove_shared}
use Rattle.rules.specs.Calls.{Ready, step}
use Rattle.rules.specs.Calls as calls
use Rattle.rules.proofs.Laws.Lists.{All, NoDup, Walk, all_map, walk-frame}
use Rattle.rules.proofs.Laws.Columns.{upd, upd_other}
use Rattle.rules.proofs.Laws.Working.{View, view}
use Rattle.rules.proofs.Laws.Soundness.{shaped_of, ring-at}
use Rattle.rules.proofs.Laws.Stored.{live_stored}
use Rattle.rules.proofs.Laws.Safe.{LiveSlot, working}
use Rattle.rules.proofs.Laws.Freed.{free_element_v, free_element-view, free_element-still}
use Rattle.slots.specs.Asked.{Within}
use Rattle.rings.specs.Asked.{Apart}

free_ring-step : (n k : ℕ) (st : State) (x : ℕ) → k < n → free_ring (n - suc k) (free_element st x) (next_of st.elems x) ≡ free_ring (n - k) st x
unfolding free_ring
free_ring-step n k st x h = let z : n - k ≡ suc (n - suc k) = omega arith in rw z

-- the ring of a live slot
pub ring-apart : (st : State) (x : ℕ) → Ready st → LiveSlot st x → Apart st.elems (size_at st x) x
ring-apart st x R l =
    let H = shaped_of st R.shape in
    let W = working st R in
    let r = ring-at (view st) W x (omega (arith, l.used)) in
    record {
      slots = x ∷ r.rest;
      end = x;
      walk = (refl, r.round);
      once = r.once;
      each = all_map (λ s f. let i = live_stored H.elems W.elems s f.live in record { some = i.low; inside = i.high }) (x ∷ r.rest) r.frames;
      sized = r.sized;
    }

-- the frames past the first are as they were when it is freed
apart_next : (st : State) (n k x : ℕ) → k < n → Apart st.elems (n - k) x → Within frame_width st.elems x × Apart (free_element st x).elems (n - suc k) (next_of st.elems x)
unfolding free_element_v
apart_next st n k x h a = go a.slots a.walk a.once a.each a.sized
  where
    go : (xs : List ℕ) → Walk (next_of st.elems) x a.end xs → NoDup xs → All (Within frame_width st.elems) xs → length xs ≡ n - k
        → Within frame_width st.elems x × Apart (free_element st x).elems (n - suc k) (next_of st.elems x)
    go [] w u e l = absurd (omega arith)
    go (y ∷ ys) w u e l =
        let q : x ≡ y = w.0 in
        let here : Within frame_width st.elems x = rw q e.0 in
        let column : next_of (free_element st x).elems ≡ upd (next_of st.elems) x st.head.elems.root = ap (λ (v : View). v.next) (free_element-view st x (record { low = here.some; high = here.inside })) in
        let long = (free_element-still st x).elems-long in (
          here,
          record {
            slots = ys;
            end = a.end;
            walk = rw column (walk-frame (next_of st.elems) (upd (next_of st.elems) x st.head.elems.root) (next_of st.elems x) a.end ys (all_map (λ s o. upd_other (next_of st.elems) x st.head.elems.root s (λ p. o (sym (p ∙ q)))) ys u.0) (rw (← q) at w.1));
            once = u.1;
            each = all_map (λ s i. record { some = i.some; inside = rw long i.inside }) ys e.1;
            sized = omega arith;
          },
        )

-- what is still to free after `k` frames gives the whole
pub record Freeing (h₀ : Head) (e₀ : List ℕ) (n x : ℕ) (h : Head) (e : List ℕ) (k at : ℕ) : Type 0 where
  pub apart : Apart e (n - k) at
  pub live : n - k ≤ h.elems.live
  pub rest : (s : List ℕ) → free_ring (n - k) (state_of h e s) at ≡ free_ring n (state_of h₀ e₀ s) x

pub freeing_begun : (h : Head) (e : List ℕ) (n x : ℕ) → Apart e n x → n ≤ h.elems.live → Freeing h e n x h e 0 x
freeing_begun h e n x a l = let z : n - 0 ≡ n = omega arith in record { apart = rw z a; live = rw z l; rest = λ s. rw z }

module _ (h₀ : Head) (e₀ : List ℕ) (n x : ℕ) (h : Head) (e : List ℕ) (k at : ℕ) (F : Freeing h₀ e₀ n x h e k at) where
  pub freeing_at : k < n → Within frame_width e at
  freeing_at l = (apart_next (state_of h e []) n k at l F.apart).0

  pub freeing_next : k < n → (h' : Head) (e' : List ℕ) → ((s : List ℕ) → state_of h' e' s ≡ free_element (state_of h e s) at) → Freeing h₀ e₀ n x h' e' (suc k) (next_of e at)
  unfolding free_element freed
  freeing_next l h' e' f =
      let table : e' ≡ (free_element (state_of h e []) at).elems = ap (λ (st : State). st.elems) (f []) in
      let live : h'.elems.live ≡ h.elems.live - 1 = ap (λ (st : State). st.head.elems.live) (f []) in
      record {
        apart = rw table (apart_next (state_of h e []) n k at l F.apart).1;
        live = omega (arith, F.live);
        rest = λ s. rw (f s) (free_ring-step n k (state_of h e s) at l ∙ F.rest s);
      }

  pub freeing_done : n ≤ k → (s : List ℕ) → state_of h e s ≡ free_ring n (state_of h₀ e₀ s) x
  unfolding free_ring
  freeing_done l s = let z : n - k ≡ 0 = omega arith in rw z at (F.rest s)

-- what a freed ring, and a freed header, leave of the head
free_ring-head : (n : ℕ) (st : State) (x : ℕ) → ((free_ring n st x).head.shared ≡ st.head.shared) × ((free_ring n st x).head.generation ≡ st.head.generation)
unfolding free_ring free_element
free_ring-head zero st x = (refl, refl)
free_ring-head (suc n) st x = free_ring-head n (free_element st x) (next_of st.elems x)

module _ (st : State) (n x class : ℕ) (emptied : Head) (e : List ℕ) (ring : state_of emptied e st.shared ≡ free_ring n st x) where
  pub emptied_shared : emptied.shared ≡ st.head.shared
  emptied_shared = ap (λ (t : State). t.head.shared) ring ∙ (free_ring-head n st x).0

  pub emptied_generation : emptied.generation ≡ st.head.generation
  emptied_generation = ap (λ (t : State). t.head.generation) ring ∙ (free_ring-head n st x).1

  module _ (freed : Head) (s : List ℕ) (header : state_of freed e s ≡ free_shared (state_of emptied e st.shared) class) where
    pub freed-generation : freed.generation ≡ st.head.generation
    unfolding free_shared
    freed-generation = ap (λ (t : State). t.head.generation) header ∙ emptied_generation

    -- all steps of the call, one after another
    pub ring-removed : (k : Key) (value : ℕ) (r : Step ⊤) → found st k ≡ Ok x
        → class ≡ class_of st.elems x → n ≡ count_of st.shared class → value ≡ value_of st.shared class
        → r ≡ record { head = with_generation freed (raised freed.generation); answer = tt; over = freed.generation == last_generation }
        → after one_value st.head (Ok (record { head = r.head; answer = value; over = r.over })) e s [] ≡ step st [] (calls.remove_shared k)
    unfolding remove_shared raise overflows
    ring-removed k value r live c size v up =
        let sized : n ≡ size_at st x = size ∙ ap (count_of st.shared) c in
        let valued : value ≡ value_of st.shared (class_of st.elems x) = v ∙ ap (value_of st.shared) c in
        let gone : state_of freed e s ≡ free_shared (free_ring (size_at st x) st x) (class_of st.elems x) = rw (← sized, ← c, ← ring) header in
        simp live (rw (up, valued, ← gone, freed-generation))

pub remove_shared-3 : (st : State) (k : Key) {cause : Cause} → found st k ≡ Err cause → outcome st [] (refuse (Dead cause)) ≡ step st [] (calls.remove_shared k)
unfolding remove_shared
remove_shared-3 st k p = simp p
