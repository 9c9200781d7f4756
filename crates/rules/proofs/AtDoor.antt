-- The host's door at worked states: tables that do not fit, the ring of P1, and the first trap; and which of them the inner door takes.
use mathlib.Core.Path.{refl}
use mathlib.Core.Logic.{inl}
use mathlib.Core.Bool.{true, false, false≢true}
use mathlib.Core.List.{[]}
use Rattle.rules.specs.Calls.{check, Ready, AtDoor}
use Rattle.rules.proofs.Cases.{rules, ok, refused}
use Rattle.rules.proofs.Worked.{three}
use Rattle.rules.proofs.Apart.{none}
use Rattle.rules.proofs.Sounds.{trap, trap_unsound, three_sound}

pub misshapen : AtDoor none [] check (refused 1 none [])
unfolding rules
misshapen = record { sound = true; decided = λ h. absurd (false≢true h); same = refl }

pub sound : AtDoor three [] check (ok [] three [])
unfolding rules
sound = record { sound = true; decided = λ _. (three_sound, inl refl); same = refl }

pub unsound : AtDoor trap [] check (refused 2 trap [])
unfolding rules
unsound = record { sound = false; decided = λ _ w. trap_unsound w.0; same = refl }

pub ready : Ready three
unfolding rules
ready = record { shape = refl; sound = three_sound }

pub not-ready : (Ready none → ⊥) × (Ready trap → ⊥)
unfolding rules
not-ready = ((λ r. false≢true r.shape), λ r. trap_unsound r.sound)
