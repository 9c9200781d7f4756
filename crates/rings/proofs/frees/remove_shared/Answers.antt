use mathlib.Core.Path.{◌∙◌}
use Rattle.std.proofs.lemmas.Result.{err_from_is_err_and}
use Rattle.slots.proofs.Live.{on-live}
use Rattle.rules.proofs.Laws.Safe.{safe}
use Rattle.slots.proofs.Live.{header_in}
use Rattle.rings.proofs.Freeing.{ring-apart, emptied_shared, freed-generation, ring-removed, remove_shared-3}
use Rattle.std.proofs.Common.{rules}
use Rattle.rings.proofs.frees.remove_shared.Goals as goal

pub find-requires : goal.find-requires
find-requires c = let s = safe _ c.requires in search rules

pub returns-in_err-x : goal.returns-in_err-x
returns-in_err-x c = let p = err_from_is_err_and c.from_residual.result c.from_residual.ensures.1 in rw (p.1, p.2) (remove_shared-3 _ _ ((c.find.ensures _).same ∙ c.in_err-x.was))

pub get-class-requires : goal.get-class-requires
get-class-requires c = let l = on-live _ _ _ _ c.requires (c.find.ensures _) c.in_ok-x.was in search rules

pub get-size-requires : goal.get-size-requires
get-size-requires c = let l = on-live _ _ _ _ c.requires (c.find.ensures _) c.in_ok-x.was in rw c.get-class.ensures (search rules)

pub get-value-requires : goal.get-value-requires
get-value-requires c = let l = on-live _ _ _ _ c.requires (c.find.ensures _) c.in_ok-x.was in rw c.get-class.ensures (search rules)

pub free_ring-emptied-requires : goal.free_ring-emptied-requires
free_ring-emptied-requires c = let l = on-live _ _ _ _ c.requires (c.find.ensures _) c.in_ok-x.was in rw (c.get-size.ensures, c.get-class.ensures) (ring-apart _ _ c.requires l.live, l.frame.count_in)

pub free_header-freed-requires : goal.free_header-freed-requires
free_header-freed-requires c = let l = on-live _ _ _ _ c.requires (c.find.ensures _) c.in_ok-x.was in (rw c.get-class.ensures (header_in _ _ l.safe l.live), rw (emptied_shared _ _ _ 0 _ _ (c.free_ring-emptied.ensures c.args.shared.now)) l.frame.shared-live)

pub raise-raised-requires : goal.raise-raised-requires
raise-raised-requires c = let s = safe _ c.requires in rw (freed-generation _ _ _ _ _ _ (c.free_ring-emptied.ensures _) _ _ (c.free_header-freed.ensures _)) s.generation

pub returns : goal.returns
returns c = ring-removed _ _ _ _ _ _ (c.free_ring-emptied.ensures _) _ _ (c.free_header-freed.ensures _) _ _ _ ((c.find.ensures _).same ∙ c.in_ok-x.was) c.get-class.ensures c.get-size.ensures c.get-value.ensures c.raise-raised.ensures
