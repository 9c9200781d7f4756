-- The runs of a sound state have the room that a file gives them (Ticket 11), and the largest file is no longer than a u32 can tell.
use mathlib.Core.Path.{◌≡◌, ap}
use mathlib.Core.Logic.{◌≢◌}
use mathlib.Core.List.{List, [], ◌∷◌, map}
use Prim.Native.Nat.{ℕ, zero, suc, ◌+◌, ◌*◌, ◌≤◌, ◌<◌}
use native.Mathlib.Omega.{arith}
use lib.ListN.{length, get_or, length-map}
use Rattle.rules.specs.Notation.{All}
use Rattle.rules.specs.Tables.{most_slots, frame_width, header_width, frame_at, header_at, cell, State}
use Rattle.rules.specs.Calls.{Ready}
use Rattle.rules.specs.Drains.{ring}
use Rattle.rules.specs.Compress.{lowest_slots}
use Rattle.rules.specs.Bytes.{limit}
use Rattle.rules.specs.RunFile.{StoredRun, frame_length, body_length, entries, first_body, frame_count, FrameFits, RunFits, EntryFits, Fits}
use Rattle.rules.specs.WriteFile.{frame_in, run_in, runs_in, bytes_in}
use Rattle.rules.specs.Filing.{Words, most_file}
use Rattle.rules.proofs.Laws.Working.{view, Working}
use Rattle.rules.proofs.Laws.Soundness.{shaped_of}
use Rattle.rules.proofs.Laws.Safe.{working}
use Rattle.rules.proofs.Laws.Order.{round}
use Rattle.rules.proofs.Laws.Blocks.{lowest-live}
use Rattle.rules.proofs.Laws.Compress.{live-fits}
use Rattle.rules.proofs.Laws.FileLength.{runs-live, frames-live, bytes-live}

-- tables of u64
pub words : (st : State) → ((i : ℕ) → get_or st.elems i 0 < limit 8) → ((i : ℕ) → get_or st.shared i 0 < limit 8) → Words st
unfolding cell
words st e s = record { payloads = column frame_width st.elems frame_at.payload e; values = column header_width st.shared header_at.value s }
  where
    column : (w : ℕ) (t : List ℕ) (f : ℕ) → ((i : ℕ) → get_or t i 0 < limit 8) → (x : ℕ) → cell w t f x < limit 8
    column w t f h zero = omega arith
    column w t f h (suc u) = h (u * w + f)

-- the bodies end before the limit, so each entry has its room
entries_fit : (v at : ℕ) (rs : List StoredRun) → at + (length rs * 20 + frame_count rs * frame_length v) < limit 4 → All EntryFits (entries v at rs)
unfolding entries
entries_fit v at [] h = tt
entries_fit v at (r ∷ rs) h = (record { offset = omega (arith, h); long = omega (arith, h) }, entries_fit v (at + body_length v r) rs (omega (arith, h)))

module _ (st : State) (R : Ready st) where
  W : Working (view st)
  W = working st R

  few-frames : st.head.elems.live ≤ most_slots
  few-frames = omega (arith, live-fits W.elems, (shaped_of st R.shape).elems.small)

  few-runs : st.head.shared.live ≤ most_slots
  few-runs = omega (arith, live-fits W.shared, (shaped_of st R.shape).shared.small)

  -- THE LARGEST FILE
  pub file-most : (v : ℕ) → length (bytes_in v st) ≤ most_file v
  file-most v = omega (arith, bytes-live st W v, few-frames, few-runs)

  module _ (v : ℕ) (N : Words st) where
    frames_fit : (xs : List ℕ) → All (FrameFits v) (map (frame_in st) xs)
    frames_fit [] = tt
    frames_fit (x ∷ xs) = (record { payload = N.payloads x; size = omega (arith, W.sizes.most x) }, frames_fit xs)

    runs_fit : (most : ℕ) → most ≤ most_slots → (xs : List ℕ) → All (λ x. (view st).gen x ≢ 0) xs → frame_count (map (run_in st) xs) ≤ most → All (RunFits v) (map (run_in st) xs)
    runs_fit most s [] h l = tt
    runs_fit most s (x ∷ xs) h l =
        let n : length (map (frame_in st) (ring st x)) ≡ length (ring st x) = length-map (ring st x) (frame_in st) in
        let b : length (ring st x) ≡ suc (length (round st W x h.0).rest) = ap length (round st W x h.0).begins in (
          record {
            value = N.values ((view st).class x);
            some = omega (arith, n, b);
            count = omega (arith, l);
            frames = frames_fit (ring st x);
          },
          runs_fit most s xs h.1 (omega (arith, l)),
        )

    -- THE ROOM
    pub runs_have_room : Fits v (runs_in st)
    unfolding runs_in
    runs_have_room = record {
      count = omega (arith, runs-live st W, few-runs);
      runs = runs_fit st.head.elems.live few-frames (lowest_slots st) (lowest-live st W) (omega (arith, frames-live st W));
      contents = entries_fit v (first_body (length (runs_in st))) (runs_in st) (omega (arith, runs-live st W, frames-live st W, few-runs, few-frames));
    }
