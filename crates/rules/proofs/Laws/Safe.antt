-- The range facts that code rests on: flat, so that index and sum needs find them. They follow from a sound state.
use Rattle.std.specs.Prelude.{if◌then◌else◌, ◌==◌}
use Prim.Native.Nat.{ℕ, ◌*◌, ◌≤◌, ◌<◌}
use mathlib.Core.Path.{◌≡◌, refl}
use mathlib.Core.Logic.{◌≢◌}
use mathlib.Core.Bool.{Bool, true, false, ◌&&◌}
use mathlib.Core.List.{List, [], ◌∷◌}
use native.Mathlib.Omega.{arith}
use lib.Dec.{T, eqb→eq, eqb_refl}
use lib.ListN.{length}
use Rattle.rules.specs.declared.Pool.{Pool}
use Rattle.rules.specs.declared.Key.{Key}
use Rattle.std.specs.Prelude.{Ok, Err}
use Rattle.rules.specs.Tables.{most_slots, last_generation, most_bytes, total_bound, frame_width, header_width, generation_of, class_of, previous_of, next_of, bytes_of, count_of, total_of, State, elem_side, is_live, cause, found}
use Rattle.rules.specs.Calls.{Ready}
use Rattle.rules.proofs.Laws.Lists.{All, Walk, all_map}
use Rattle.rules.proofs.Laws.Pools.{Free, live_in}
use Rattle.rules.proofs.Laws.Pools
use Rattle.rules.proofs.Laws.Count.{lives_le, fewer}
use Rattle.rules.proofs.Laws.Sides.{and_T, T_and, live_of, live_to}
use Rattle.rules.proofs.Laws.Working.{view, Working, live_inside}
use Rattle.rules.proofs.Laws.Totals.{sizes_part, total-below}
use Rattle.rules.proofs.Laws.Soundness.{Fits, Shaped, shaped_of, shaped_to, ring-at, working_of_sound, sound_of_working}

-- the numbers of a pool
pub record Pooled (p : Pool) : Type 0 where
  pub some : 1 ≤ p.capacity
  pub small : p.capacity ≤ most_slots
  pub within : p.extent ≤ p.capacity
  pub root : p.root ≤ p.extent
  pub live : p.live ≤ p.extent

-- a pool over its table, `w` numbers to a slot
pub record Table (w : ℕ) (p : Pool) (t : List ℕ) : Type 0 where
  pub pool : Pooled p
  pub long : length t ≡ p.capacity * w

-- a frame's slot
pub record LiveSlot (st : State) (x : ℕ) : Type 0 where
  pub some : 1 ≤ x
  pub within : x ≤ st.head.elems.extent
  pub used : 1 ≤ generation_of st.elems x

-- what stands in it
pub record SafeFrame (st : State) (x : ℕ) : Type 0 where
  pub generation : generation_of st.elems x ≤ last_generation
  pub next-some : 1 ≤ next_of st.elems x
  pub next_in : next_of st.elems x ≤ st.head.elems.extent
  pub next-live : 1 ≤ generation_of st.elems (next_of st.elems x)
  pub prev_some : 1 ≤ previous_of st.elems x
  pub prev_in : previous_of st.elems x ≤ st.head.elems.extent
  pub prev_live : 1 ≤ generation_of st.elems (previous_of st.elems x)
  pub class-some : 1 ≤ class_of st.elems x
  pub class_in : class_of st.elems x ≤ st.head.shared.extent
  pub count-some : 1 ≤ count_of st.shared (class_of st.elems x)
  pub count_in : count_of st.shared (class_of st.elems x) ≤ st.head.elems.live
  pub bytes : bytes_of st.elems x ≤ most_bytes
  pub bytes_in_lem : bytes_of st.elems x ≤ total_of st.shared (class_of st.elems x)
  pub total : total_of st.shared (class_of st.elems x) < total_bound
  pub elems-live : 1 ≤ st.head.elems.live
  pub shared-live : 1 ≤ st.head.shared.live

pub record Safe (st : State) : Type 0 where
  pub elems : Table frame_width st.head.elems st.elems
  pub shared : Table header_width st.head.shared st.shared
  pub generation-some : 1 ≤ st.head.generation
  pub generation : st.head.generation ≤ last_generation
  pub frames : (x : ℕ) → LiveSlot st x → SafeFrame st x

-- ---- of a sound state

pub working : (st : State) → Ready st → Working (view st)
working st R = working_of_sound st (shaped_of st R.shape) R.sound

pub ready : (st : State) → Shaped st → Working (view st) → Ready st
ready st H W = record { shape = shaped_to st H; sound = sound_of_working st W }

root_in : {g n : ℕ → ℕ} {r extent : ℕ} → Pools.Chain g n r extent → r ≤ extent
root_in {g} {n} {r} {extent} c = go c.slots c.walk c.free
  where
    go : (xs : List ℕ) → Walk n r 0 xs → All (Free g extent) xs → r ≤ extent
    go [] w f = omega arith
    go (x ∷ xs) w f = rw w.0 f.0.within

-- of either table
table : (w : ℕ) (p : Pool) (t : List ℕ) (g n : ℕ → ℕ) → Fits p.capacity w t → Pools.Pooled p g n → Table w p t
table w p t g n F P = record {
  pool = record { some = F.some; small = F.small; within = P.fits; root = root_in P.chain; live = omega (arith, lives_le g p.extent, P.number) };
  long = F.long;
}

pub safe : (st : State) → Ready st → Safe st
safe st R = record {
  elems = table frame_width st.head.elems st.elems (view st).gen (view st).next H.elems W.elems;
  shared = table header_width st.head.shared st.shared (view st).count (view st).chain H.shared W.shared;
  generation-some = W.least;
  generation = W.most;
  frames = λ x l. frame x (omega (arith, l.used));
}
  where
    H : Shaped st
    H = shaped_of st R.shape

    W : Working (view st)
    W = working st R

    frame : (x : ℕ) → (view st).gen x ≢ 0 → SafeFrame st x
    frame x h =
        let n = live_in W.elems ((view st).next x) (W.links.next-live x h) in
        let p = live_in W.elems ((view st).prev x) (W.links.prev_live x h) in
        let c = live_in W.shared ((view st).class x) (W.class-live x h) in
        let r = ring-at (view st) W x h in
        let some : 1 ≤ (view st).count ((view st).class x) = omega (arith, W.class-live x h) in
        let size : (view st).count ((view st).class x) ≤ st.head.elems.live = omega (
          arith,
          r.sized,
          fewer (x ∷ r.rest) (view st).gen st.head.elems.extent r.once (all_map (λ s f. let l = live_in W.elems s f.live in (f.live, l.0, l.1)) (x ∷ r.rest) r.frames),
          W.elems.number,
        ) in
        record {
          generation = W.gens x;
          next-some = n.0;
          next_in = n.1;
          next-live = omega (arith, W.links.next-live x h);
          prev_some = p.0;
          prev_in = p.1;
          prev_live = omega (arith, W.links.prev_live x h);
          class-some = c.0;
          class_in = c.1;
          count-some = some;
          count_in = size;
          bytes = W.sizes.most x;
          bytes_in_lem = let i = live_inside (view st) W x h in sizes_part W.sizes x i.0 i.1;
          total = total-below W.sizes H.elems.small ((view st).class x);
          elems-live = omega arith;
          shared-live = omega (arith, fewer ((view st).class x ∷ []) (view st).count st.head.shared.extent (tt, tt) ((W.class-live x h, c.0, c.1), tt), W.shared.number);
        }

-- ---- what a lookup says

pub record Looked (st : State) (k : Key) (x : ℕ) : Type 0 where
  pub same : x ≡ k.slot
  pub live : LiveSlot st x
  pub generation : generation_of st.elems x ≡ k.generation

pub looked : (st : State) (k : Key) (x : ℕ) → found st k ≡ Ok x → Looked st k x
unfolding found
looked st k x e = go (is_live (elem_side st) k.slot && (generation_of st.elems k.slot == k.generation)) (λ t. t) e
  where
    yes_case : T (is_live (elem_side st) k.slot && (generation_of st.elems k.slot == k.generation)) → x ≡ k.slot → Looked st k x
    yes_case t q =
        let p = and_T (is_live (elem_side st) k.slot) (generation_of st.elems k.slot == k.generation) t in
        let l = live_of (elem_side st) k.slot p.0 in
        record { same = q; live = rw q (record { some = l.low; within = l.high; used = omega (arith, l.used) }); generation = rw q (eqb→eq (generation_of st.elems k.slot) k.generation p.1) }

    go : (b : Bool) → (T b → T (is_live (elem_side st) k.slot && (generation_of st.elems k.slot == k.generation))) → (if b then Ok k.slot else Err (cause st k)) ≡ Ok x → Looked st k x
    go true f q = yes_case (f tt) (cc)
    go false f q = let z : ◌≡◌ {A = ℕ} 0 1 = cc in absurd (omega arith)

pub found-live : (st : State) (k : Key) → LiveSlot st k.slot → generation_of st.elems k.slot ≡ k.generation → found st k ≡ Ok k.slot
unfolding found
found-live st k l e = go (is_live (elem_side st) k.slot && (generation_of st.elems k.slot == k.generation))
    (T_and (is_live (elem_side st) k.slot) (generation_of st.elems k.slot == k.generation)
    (live_to (elem_side st) k.slot (record { low = l.some; high = l.within; used = omega (arith, l.used) })) (rw e (eqb_refl k.generation)))
  where
    go : (b : Bool) → T b → (if b then Ok k.slot else Err (cause st k)) ≡ Ok k.slot
    go true t = refl
    go false t = absurd t
