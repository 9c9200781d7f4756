-- The program's steps, from a line to a block to the whole input: each keeps what Script says of all that was read.
use Prim.Native.Nat.{ℕ}
use mathlib.Core.Path.{◌≡◌, refl}
use mathlib.Core.List.{List, [], ◌∷◌, ◌++◌}
use native.Mathlib.Omega.{arith}
use Rattle.rules.specs.Script.{newline, pieces}
use Rattle.lines.specs.Stream.{Keeps, fresh_state}
use Rattle.lines.proofs.Follows.{follows_block, follows-room, follows_part, follows-line, follows-start}
use Rattle.blocks.specs.declared.Program.{Program}
use Rattle.blocks.specs.Progress.{Working, SameLengths, Answered, Doing, Fed, Reading, Lent}
use Rattle.stdio.specs.Handed.{Handed}
use Rattle.rules.proofs.Laws.Empty.{empty_keeps}
use Rattle.rules.specs.Script.{capacity}

-- ---- a block

module _ (block : List ℕ) (p : Program) where
  -- of the block, `rest` is left
  pub record Feeding (rest : List ℕ) (q : Program) : Type 0 where
    pub working : Working q
    pub long : SameLengths p q
    pub does : (past : List ℕ) → Doing past [] p → Doing (past ++ block) rest q

  -- reading begins at the block's first byte
  pub feeding_start : {rest : List ℕ} → rest ≡ block → Working p → Feeding rest p
  feeding_start e w =
      rw e (
      record { working = w; long = record { elems = refl; shared = refl; keys = refl; out = refl; line = refl }; does = λ past d. record { gone = d.gone; handed = d.handed; follows = follows_block d.follows } }
      )

  -- a line that ends in it is held and obeyed
  pub feeding_next : {rest part after line' : List ℕ} {held' : ℕ} {q r : Program} → Feeding rest q → pieces newline rest ≡ part ∷ pieces newline after
      → Keeps q.line.now q.held part line' held' → Answered (record q { line = record q.line { now = line' }; held = held' }) r → Feeding after r
  feeding_next {r = r} f e k a =
      let w = f.working in
      record {
        working =
            record {
              ready = a.obeys.ready;
              keys = omega (arith, a.long.keys, w.keys);
              reply = omega (arith, a.long.out, w.reply);
              line = omega (arith, a.long.line, k.long, w.line);
              fill = omega (arith, a.long.out, a.within);
              held = omega (arith, a.none);
            };
        long =
            record {
              elems = omega (arith, a.long.elems, f.long.elems);
              shared = omega (arith, a.long.shared, f.long.shared);
              keys = omega (arith, a.long.keys, f.long.keys);
              out = omega (arith, a.long.out, f.long.out);
              line = omega (arith, a.long.line, k.long, f.long.line);
            };
        does =
            λ past d.
            let g = f.does past d in
            let z = a.stays g.gone g.handed in
            record {
              gone = z.handed;
              handed = z.counted;
              follows = rw a.none (follows-line (follows-room g.follows z.same) e k (omega (arith, k.long, w.line)) a.obeys a.within r.line.now);
            };
      }

  -- and the part of one that is left is held
  pub feeding_end : {rest line' : List ℕ} {held' : ℕ} {q : Program} → Feeding rest q → pieces newline rest ≡ rest ∷ []
      → Keeps q.line.now q.held rest line' held' → Fed block p (record q { line = record q.line { now = line' }; held = held' })
  feeding_end f e k =
      record {
        working =
            record {
              ready = f.working.ready;
              keys = f.working.keys;
              reply = f.working.reply;
              line = omega (arith, k.long, f.working.line);
              fill = f.working.fill;
              held = omega (arith, k.long, k.within);
            };
        long =
            record {
              elems = f.long.elems;
              shared = f.long.shared;
              keys = f.long.keys;
              out = f.long.out;
              line = omega (arith, k.long, f.long.line);
            };
        does = λ past d. let g = f.does past d in record { gone = g.gone; handed = g.handed; follows = follows_part g.follows e k };
      }

-- ---- the whole input

pub reading_next : {block : List ℕ} {p r : Program} → Reading p → Fed block p r → Reading r
reading_next {block} d f = record { working = f.working; input = d.input ++ block; doing = f.does d.input d.doing }

-- fresh tables are ready, and the buffers are long enough
pub reading_start : (p : Program) → Lent p.elems.now p.shared.now p.keys.now p.out.now p.line.now → p.head ≡ fresh_state.head → Handed p.sent []
    → p.fill ≡ 0 → p.held ≡ 0 → Reading p
reading_start p l e h f z =
    record {
      working =
          record {
            ready = rw (e, l.zero) (empty_keeps capacity capacity 1 (omega arith, omega arith) (omega arith, omega arith) (omega arith, omega arith));
            keys = l.width;
            reply = l.reply;
            line = l.most;
            fill = omega (arith, f);
            held = omega (arith, z);
          };
      input = [];
      doing = record { gone = []; handed = h; follows = rw (e, l.zero, f, z) (follows-start p.out.now p.line.now) };
    }
