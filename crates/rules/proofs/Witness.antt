-- Every clause of soundness can be met where it has something to say: the worked states are sound, with free slots on both chains, slots past both extents, rings of one and of three.
use mathlib.Core.Path.{◌≡◌, refl, subst}
use mathlib.Core.Logic.{inl}
use mathlib.Core.List.{List, [], ◌∷◌, map}
use Rattle.rules.specs.Tables.{State}
use Rattle.rules.specs.Calls.{Call, new_run, insert, union, remove, Ready, step}
use Rattle.rules.proofs.Cases.{rules, key}
use Rattle.rules.proofs.Worked.{fresh43, two, four, goes_on, single, reused}
use Rattle.rules.proofs.Laws.Lists.{All}
use Rattle.rules.specs.Undo.{Remembers}
use Rattle.rules.specs.Keeping.{effect}
use Rattle.rules.proofs.Laws.Kept.{recalled, kept, kept_fresh}
use Rattle.rules.proofs.Laws.Dropped.{kept_memory}

-- the state after some calls that lend nothing
after : State → List Call → State
after st [] = st
after st (c ∷ cs) = after (step st [] c).state cs

ready-after : (st : State) → Ready st → Remembers st → (cs : List Call) → Ready (after st cs)
unfolding after
ready-after st r m [] = r
ready-after st r m (c ∷ cs) = ready-after (step st [] c).state (kept st r [] c (recalled (effect c) st m)) (kept_memory st r m [] c) cs

ready-fresh : Ready fresh43
unfolding rules
ready-fresh = kept_fresh fresh43 4 3 refl

abbrev runs : List (List Call)
runs =
    -- P1 and P2; P4 and P7; P11
    (new_run 10 100 0 ∷ insert (key 1 1) 11 0 ∷ insert (key 1 1) 12 0 ∷ new_run 20 200 0 ∷ []) ∷
    (new_run 10 100 0 ∷ insert (key 1 1) 11 0 ∷ insert (key 1 1) 12 0 ∷ new_run 20 200 0 ∷ union (key 4 1) (key 1 1) ∷ remove (key 4 1) ∷ []) ∷
    (new_run 10 100 0 ∷ new_run 20 200 0 ∷ remove (key 1 1) ∷ []) ∷
    (new_run 10 100 0 ∷ new_run 20 200 0 ∷ remove (key 1 1) ∷ insert (key 2 1) 21 0 ∷ []) ∷
    []

states : map (after fresh43) runs ≡ four ∷ goes_on ∷ single ∷ reused ∷ []
unfolding rules after
states = refl

all_after : (rs : List (List Call)) → All Ready (map (after fresh43) rs)
all_after [] = tt
all_after (r ∷ rs) = (ready-after fresh43 ready-fresh (inl refl) r, all_after rs)

pub sound_states : All Ready (four ∷ goes_on ∷ single ∷ reused ∷ [])
sound_states = subst (All Ready) states (all_after runs)

pub ready_two : Ready two
unfolding rules after
ready_two = ready-after fresh43 ready-fresh (inl refl) (new_run 10 100 0 ∷ insert (key 1 1) 11 0 ∷ [])

pub ready_four : Ready four
ready_four = sound_states.0
