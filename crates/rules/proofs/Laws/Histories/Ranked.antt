-- The new keys of the compression that keeps the slot order (Ticket 3): every frame's slot becomes its number among the frames, from the history alone.
use Rattle.std.specs.Prelude.{if◌then◌else◌}
use mathlib.Core.Path.{◌≡◌, refl, sym, ap, ◌∙◌, subst}
use mathlib.Core.Logic.{◌≢◌}
use mathlib.Core.Bool.{Bool, true, false}
use mathlib.Core.List.{List, [], ◌∷◌, map}
use Prim.Native.Nat.{ℕ, suc}
use lib.ListN.{length}
use Rattle.rules.specs.declared.Key.{Key}
use Rattle.rules.specs.Notation.{◌≤?◌, flat, keep}
use Rattle.rules.specs.Tables.{State, elem_side, shared_side}
use Rattle.rules.specs.Calls.{Ready, compress_with}
use Rattle.rules.specs.Compress.{place_of, live_slots, renumbered, generation_after}
use Rattle.rules.specs.History.{History, moved_down, by_slot, accepted}
use Rattle.rules.proofs.Laws.Lists.{all-at, in_map, in_image, nodup_image}
use Rattle.rules.proofs.Laws.Working.{view, Working}
use Rattle.rules.proofs.Laws.Safe.{working}
use Rattle.rules.proofs.Laws.Keys.{key_path}
use Rattle.rules.proofs.Laws.Rep.{key_at, LiveKey, Rep, slots_apart}
use Rattle.rules.proofs.Laws.Classes.{slot}
use Rattle.rules.proofs.Laws.Good.{Good}
use Rattle.rules.proofs.Laws.Order.{Listed}
use Rattle.rules.proofs.Laws.Compress.{by_place, own_renumbers, own_gen, own_keeps}
use Rattle.rules.proofs.Laws.Ranks.{rank, place_rank, rank_same, live_listed, live-rising}
use Rattle.rules.proofs.Laws.Histories.Renumber.{rekeyed}
use Rattle.rules.proofs.Laws.Histories.Renamed.{Told, good-renumbered}

-- a frame's number among keys, and among their slots
rank_slots : (ks : List Key) (s : ℕ) → length (keep (λ j. j.slot ≤? s) ks) ≡ rank (map slot ks) s
rank_slots [] s = refl
rank_slots (k ∷ ks) s = go (k.slot ≤? s) (rank_slots ks s)
  where
    go : (b : Bool) → length (keep (λ j. j.slot ≤? s) ks) ≡ rank (map slot ks) s → length (if b then k ∷ keep (λ j. j.slot ≤? s) ks else keep (λ j. j.slot ≤? s) ks) ≡ length (if b then k.slot ∷ keep (λ y. y ≤? s) (map slot ks) else keep (λ y. y ≤? s) (map slot ks))
    go true e = ap suc e
    go false e = e

-- the tables after it
abbrev pub compressed_with : State → Bool → State
compressed_with st reset = renumbered st (live_slots (elem_side st)) (live_slots (shared_side st)) (generation_after reset st.head.generation)

module _ (st : State) (W : Working (view st)) where
  pub frames_by_slot : Listed (view st).gen (live_slots (elem_side st))
  frames_by_slot = live_listed (elem_side st) W.elems

  pub headers_by_slot : Listed (view st).count (live_slots (shared_side st))
  headers_by_slot = live_listed (shared_side st) W.shared

  -- the slots of the history are the live slots
  ranked : (h : List (List Key)) → Rep (view st) h → (s : ℕ) → (view st).gen s ≢ 0 → place_of (live_slots (elem_side st)) s ≡ length (keep (λ j. j.slot ≤? s) (flat h))
  ranked h R s l =
      let fs = live_slots (elem_side st) in
      let L = frames_by_slot in
      place_rank fs s (live-rising (elem_side st) W.elems) (L.whole s l)
      ∙ rank_same fs (map slot (flat h)) s L.once (nodup_image slot (LiveKey (view st)) (flat h) (λ a b k j n. slots_apart (view st) a b k j n) R.live R.once)
      (λ x i. in_map slot (key_at (view st) x) (flat h) (R.whole x (all-at (λ s. (view st).gen s ≢ 0) x fs L.live i)))
      (λ y i. let t = in_image slot y (flat h) i in L.whole y (rw t.2 (all-at (LiveKey (view st)) t.0 (flat h) R.live t.1).live))
      ∙ sym (rank_slots (flat h) s)

  -- the new key of a live frame, as the history says it and as the tables have it
  pub moved-is : (reset : Bool) (h : List (List Key)) → Rep (view st) h → (k : Key) → LiveKey (view st) k
      → rekeyed (view st) (view (compressed_with st reset)) (by_place (live_slots (elem_side st)) (live_slots (shared_side st))) (own_renumbers st W (live_slots (elem_side st)) (live_slots (shared_side st)) frames_by_slot headers_by_slot reset) W k
      ≡ moved_down (generation_after reset st.head.generation) (flat h) k
  unfolding moved_down
  moved-is reset h R k l = key_path _ _ (ranked h R k.slot l.live) (own_gen st W (live_slots (elem_side st)) (live_slots (shared_side st)) frames_by_slot headers_by_slot reset k.slot l.live)

-- KEPT, and the history stepped
pub with_keeps : (st : State) (reset : Bool) → Ready st → Ready (compressed_with st reset)
with_keeps st reset R = let W = working st R in own_keeps st R (live_slots (elem_side st)) (live_slots (shared_side st)) (frames_by_slot st W) (headers_by_slot st W) reset

pub kept-told : (st : State) (h : History) (G : Good st h) (reset : Bool)
    → Told st h G (live_slots (elem_side st)) (live_slots (shared_side st)) (frames_by_slot st (working st G.ready)) (headers_by_slot st (working st G.ready)) reset (by_slot h reset)
kept-told st h G reset =
    let W = working st G.ready in
    subst (λ (i : ℕ). Told st h G (live_slots (elem_side st)) (live_slots (shared_side st)) (frames_by_slot st W) (headers_by_slot st W) reset (moved_down (generation_after reset i) (flat h.runs))) G.generation (moved-is st W reset h.runs G.rings)

pub good_with : (st : State) (h : History) → Good st h → (reset : Bool) (values : List ℕ) → Good (compressed_with st reset) (accepted h (compress_with reset) values)
good_with st h G reset values =
    let W = working st G.ready in
    good-renumbered st h G (live_slots (elem_side st)) (live_slots (shared_side st)) (frames_by_slot st W) (headers_by_slot st W) reset (by_slot h reset) (kept-told st h G reset)
