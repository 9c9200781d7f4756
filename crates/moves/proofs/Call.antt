-- The call: refused 5 or 6 with nothing changed; an empty source left alone; or both sides as the rule says.
use Rattle.std.specs.Prelude.{◌==◌, Ok, Err}
use mathlib.Core.Path.{◌≡◌, refl, sym, ap, ◌∙◌}
use mathlib.Core.Logic.{◌≢◌}
use mathlib.Core.Bool.{Bool, true, false}
use mathlib.Core.List.{List, [], ◌∷◌, map}
use Prim.Native.Nat.{ℕ, ◌*◌, ◌-◌, ◌≤◌}
use native.Mathlib.Omega.{arith}
use lib.ListN.{length, replicate, get_or-eq_default}
use Rattle.rules.specs.declared.Head.{Head}
use Rattle.rules.specs.declared.Refusal.{Refusal}
use Rattle.rules.specs.Notation.{flat}
use Rattle.rules.specs.Tables.{last_generation, frame_width, header_width, blank, State, state_of}
use Rattle.rules.specs.Refusals.{said_accepted, shaped}
use Rattle.rules.specs.Slots.{empty, raised, overflows}
use Rattle.rules.specs.Drains.{cleared}
use Rattle.rules.specs.Calls.{Ready}
use Rattle.rules.specs.Compress.{canonical_frames, canonical_classes, padded, packed_in, moved_frame, moved_header, renumbered_in}
use Rattle.rules.specs.TwoTables.{refuse, two_outcome, after_both}
use Rattle.rules.specs.Move.{transfer, transfer_step}
use Rattle.rules.proofs.Laws.Move.{Fitting}
use Rattle.rules.proofs.Laws.Moving
use Rattle.rules.proofs.Laws.Working.{view, Working}
use Rattle.rules.proofs.Laws.Soundness.{shaped_of}
use Rattle.rules.proofs.Laws.Safe.{working, safe}
use Rattle.rules.proofs.Laws.Past.{past-shared}
use Rattle.rules.proofs.Laws.Order.{Listed, frames_listed, classes_listed}
use Rattle.rules.proofs.Laws.Compress.{listed_live}
use Rattle.wipes.specs.Wiped.{ZeroPast}
use Rattle.moves.specs.Moves.{Movable, Landed}

none : (xs : List ℕ) → length xs ≡ 0 → xs ≡ []
none [] e = refl
none (x ∷ xs) e = absurd (omega arith)

-- an empty source gives empty tables
module _ (st : State) (W : Working (view st)) (z : st.head.elems.live ≡ 0) where
  no_frames : canonical_frames st ≡ []
  no_frames = none (canonical_frames st) (listed_live W.elems (canonical_frames st) (frames_listed st W) ∙ z)

  no_headers : canonical_classes st ≡ []
  no_headers = go (canonical_classes st) (classes_listed st W)
    where
      go : (cs : List ℕ) → Listed (view st).count cs → cs ≡ []
      go [] L = refl
      go (c ∷ cs) L =
          let r = W.ring c L.live.0 in
          absurd (rw no_frames at ((frames_listed st W).whole r.0 r.1.frames.0.live))

  no_shared : st.head.shared.live ≡ 0
  no_shared = sym (listed_live W.shared (canonical_classes st) (classes_listed st W)) ∙ ap length no_headers

  renumbered-none : (a b g : ℕ) → renumbered_in a b st (canonical_frames st) (canonical_classes st) g ≡ empty a b g
  unfolding renumbered_in empty padded
  renumbered-none a b g =
      let x : a * frame_width - 0 ≡ a * frame_width = omega arith in
      let y : b * header_width - 0 ≡ b * header_width = omega arith in
      (λ i. record {
        head = record { elems = packed_in a (z i); shared = packed_in b (no_shared i); generation = g; undo = blank };
        elems = padded (a * frame_width) (flat (map (moved_frame st (canonical_frames st) (canonical_classes st) g) (no_frames i)));
        shared = padded (b * header_width) (flat (map (moved_header st) (no_headers i)));
      })
      ∙ (λ i. record { head = record { elems = packed_in a 0; shared = packed_in b 0; generation = g; undo = blank }; elems = replicate {A = ℕ} (x i) 0; shared = replicate {A = ℕ} (y i) 0 })

module _ (to of : State) (g : ℕ) where
  abbrev a : ℕ
  a = to.head.elems.capacity

  abbrev b : ℕ
  b = to.head.shared.capacity

  -- a refusal told by the code is the rule's
  pub refusing : (why : Refusal) → transfer to of g ≡ refuse why → after_both to.head of.head (Err why) to.elems to.shared of.elems of.shared ≡ transfer_step to of g
  refusing why q = rw q

  module _ (F : Fitting to of g) where
    pub move-empty : (k : ℕ) → k ≡ g → Ready of → of.head.elems.live ≡ 0 → (h : Head) (e s : List ℕ) → state_of h e s ≡ empty a b k
        → after_both to.head of.head (Ok (record { head = h; source = of.head; over = false })) e s of.elems of.shared ≡ transfer_step to of g
    move-empty k is R z h e s q =
        (λ i. record { said = said_accepted [] false; target = (q ∙ ap (empty a b) is ∙ sym (renumbered-none of (working of R) z a b g)) i; source = of }) ∙ ap (two_outcome to of) (sym (Moving.move-none to of g F z))

    pub move-done : (k : ℕ) → k ≡ g → Ready of → of.head.elems.live ≢ 0 → (e s fr : List ℕ) → length to.elems ≡ a * frame_width → length to.shared ≡ b * header_width → Landed to.elems to.shared of k e s fr
        → (hd₀ : Head) → hd₀ ≡ record { elems = packed_in a of.head.elems.live; shared = packed_in b of.head.shared.live; generation = k; undo = blank }
        → (hd : Head) (fr' hs : List ℕ) (n : ℕ) (over : Bool) → n ≡ raised of.head.generation → over ≡ (of.head.generation == last_generation) → state_of hd fr' hs ≡ empty of.head.elems.capacity of.head.shared.capacity n
        → after_both to.head of.head (Ok (record { head = hd₀; source = hd; over = over })) e s fr' hs ≡ transfer_step to of g
    unfolding renumbered_in cleared overflows
    move-done k is R live e s fr x y L hd₀ p hd fr' hs n over w o z =
        let M = rw is at L in
        let q = rw is at p in
        (λ i. record { said = said_accepted [] (o i); target = state_of (q i) (M.elems a b x F.elems i) (M.shared a b y F.shared i); source = (z ∙ ap (empty of.head.elems.capacity of.head.shared.capacity) w) i })
        ∙ ap (two_outcome to of) (sym (Moving.move_some to of g F live))

pub fitting : (to of : State) (g : ℕ) → 1 ≤ g → g ≤ last_generation → of.head.elems.live ≤ to.head.elems.capacity → of.head.shared.live ≤ to.head.shared.capacity → Fitting to of g
fitting to of g l m e s = record { least = l; most = m; elems = e; shared = s }

-- tables that are wiped whole need not be zero past anything
pub whole-past : (n w : ℕ) (t : List ℕ) → length t ≡ n * w → ZeroPast n w n t
whole-past n w t e = record { long = e; within = omega arith; zeros = λ i h. get_or-eq_default t 0 (rw e h) }

-- the source's tables are zero past their extents still
pub left-past : (of : State) (g : ℕ) (e t e' t' fr : List ℕ) → Ready of → Landed e t of g e' t' fr
    → ZeroPast of.head.elems.capacity frame_width of.head.elems.extent fr × ZeroPast of.head.shared.capacity header_width of.head.shared.extent of.shared
left-past of g e t e' t' fr R L =
    let S = safe of R in
    (record { long = L.long ∙ S.elems.long; within = S.elems.pool.within; zeros = L.past }, record { long = S.shared.long; within = S.shared.pool.within; zeros = past-shared of R })

-- what landing asks
pub movable : (to of : State) → shaped to ≡ true → Ready of → of.head.elems.live ≤ to.head.elems.capacity → of.head.shared.live ≤ to.head.shared.capacity → Movable to.elems to.shared of.head of.elems of.shared
movable to of T R l k = let H = shaped_of to T in record { ready = R; slots = to.head.elems.capacity; header_slots = to.head.shared.capacity; long = H.elems.long; shared_long = H.shared.long; room = l; shared_room = k }
