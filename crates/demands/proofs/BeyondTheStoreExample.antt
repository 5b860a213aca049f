-- What `BeyondTheStore` speaks of is met, by computation in made-up catalogues.
use mathlib.Core.Path.{◌≡◌, refl}
use mathlib.Core.Bool.{true}
use mathlib.Core.List.{List, [], ◌∷◌}
use Rattle.rules.specs.Maps.{keys}
use Rattle.rules.specs.Bytes.{fill}
use Rattle.rules.specs.Catalogue.{created, Class, Catalogue, key}
use Rattle.rules.specs.State.{contents}
use Rattle.rules.specs.Run.{Input, alarm_report, fresh, after}
use Rattle.rules.specs.Products.{any, RC, for_created, ont_data_class}
use Rattle.rules.proofs.Examples.{call, command, tell, computing}
use Rattle.demands.proofs.Labelled.{labelled_class, Labelled}

-- the sync counter is set to 5, and then the label beside it to 7
unfoldable pub set_the_counter : Input
set_the_counter = command 1 0x48 2 0 (0x80 ∷ 0 ∷ 5 ∷ [])

unfoldable pub set_the_label : Input
set_the_label = command 2 0x48 2 0 (0x40 ∷ 0 ∷ 7 ∷ [])

-- A Set of class 2 that doesn't name the counter is accepted, in a well-formed catalogue: it stores what it was sent, and the counter is still 5.
pub a_label_is_set_and_the_counter_stays :
    (tell Labelled (set_the_counter ∷ []) set_the_label ≡ fill 32 (0 ∷ []))
    × (contents Labelled (after Labelled (fresh Labelled) (set_the_counter ∷ set_the_label ∷ [])).table 2 0 ≡ (1, 5 ∷ []) ∷ (2, 7 ∷ []) ∷ [])
unfolding computing labelled_class Labelled set_the_counter set_the_label
a_label_is_set_and_the_counter_stays = (refl, refl)

-- ---- a class that can be created and has an alarm

unfoldable pub relay_class : Class
relay_class = record { commands = for_created; creation = created; alarms = 0 ∷ []; attributes = (1, RC 1 any) ∷ []; unkept = [] }

unfoldable pub Relays : Catalogue
Relays = record { places = 2; classes = (2, ont_data_class) ∷ (70, relay_class) ∷ [] }

-- two relays are made, and both have their alarm on
unfoldable pub two_alarms : List Input
two_alarms = command 1 0x44 70 1 (3 ∷ []) ∷ command 2 0x44 70 2 (3 ∷ []) ∷ call (alarm_report 70 1 0 true) ∷ call (alarm_report 70 2 0 true) ∷ []

-- A Delete of one of them is accepted, and takes its alarm and no other.
pub a_delete_takes_one_alarm :
    (keys (after Relays (fresh Relays) two_alarms).alarms ≡ key 70 1 ∷ key 70 2 ∷ [])
    × (tell Relays two_alarms (command 3 0x46 70 1 []) ≡ fill 32 (0 ∷ []))
    × (keys (after Relays (after Relays (fresh Relays) two_alarms) (command 3 0x46 70 1 [] ∷ [])).alarms ≡ key 70 2 ∷ [])
unfolding computing relay_class Relays two_alarms
a_delete_takes_one_alarm = (refl, refl, refl)
