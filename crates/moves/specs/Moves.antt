-- What a move asks and leaves.
use Rattle.std.specs.Prelude.{◌≡◌, List, ℕ, suc, ◌+◌, ◌*◌, ◌≤◌, ◌<◌, length, get_or}
use Rattle.rules.specs.declared.Head.{Head}
use Rattle.rules.specs.Tables.{most_slots, frame_width, header_width, cell, class_of, State, state_of}
use Rattle.rules.specs.Calls.{Ready}
use Rattle.rules.specs.Compress.{canonical_frames, canonical_classes, renumbered_in}
use Rattle.slots.specs.Asked.{Within}
use Rattle.swaps.specs.Swaps.{Beside}
use Rattle.place.specs.Headers.{begins, named}

-- `m` runs in blocks of `e`, with the classes of `s` still, and room for their headers in `t`
pub record Layable (m : ℕ) (e t s : List ℕ) : Type 0 where
  pub room : m * header_width ≤ length t
  pub few : m ≤ most_slots
  pub inside : (k : ℕ) → k < m → begins e s k * frame_width ≤ length e
  pub header : (k : ℕ) → k < m → Within header_width s (named e s k)
  pub ends : (k : ℕ) → k ≤ m → begins e s k * frame_width ≤ length e + frame_width

-- the frames of block k have class k, and its header stands in slot k
pub record Laid (m : ℕ) (e t s e' t' : List ℕ) : Type 0 where
  pub beside : Beside e e'
  pub class : (k : ℕ) → k < m → (u : ℕ) → begins e s k ≤ u → u < begins e s (suc k) → class_of e' u ≡ suc k
  pub past : (u : ℕ) → begins e s m ≤ u → class_of e' u ≡ class_of e u
  pub long : length t' ≡ length t
  pub headers : (k f : ℕ) → k < m → f < header_width → cell header_width t' f (suc k) ≡ cell header_width s f (named e s k)

-- room for what lives in the source, in tables of whole slots
pub record Movable (e t : List ℕ) (h : Head) (frames headers : List ℕ) : Type 0 where
  pub ready : Ready (state_of h frames headers)
  pub slots : ℕ
  pub header_slots : ℕ
  pub long : length e ≡ slots * frame_width
  pub shared_long : length t ≡ header_slots * header_width
  pub room : h.elems.live ≤ slots
  pub shared_room : h.shared.live ≤ header_slots

-- the target's tables are the rule's, whatever their capacities; past its extent the source's is zero still
pub record Landed (e t : List ℕ) (st : State) (g : ℕ) (e' t' frames : List ℕ) : Type 0 where
  pub long : length frames ≡ length st.elems
  pub past : (j : ℕ) → st.head.elems.extent * frame_width ≤ j → get_or frames j 0 ≡ 0
  pub elems : (a b : ℕ) → length e ≡ a * frame_width → st.head.elems.live ≤ a → e' ≡ (renumbered_in a b st (canonical_frames st) (canonical_classes st) g).elems
  pub shared : (a b : ℕ) → length t ≡ b * header_width → st.head.shared.live ≤ b → t' ≡ (renumbered_in a b st (canonical_frames st) (canonical_classes st) g).shared
