-- The page at work: names, digits and reasons as they are told, by computation.
use mathlib.Core.Path.{◌≡◌, refl}
use Rattle.std.specs.Prelude.{codes}
use Rattle.text_buffer.specs.Digits.{hex_digits, hexes}
use Rattle.text_buffer.specs.Tables.{behind, first_name, nth_name}
use Rattle.bench_names.specs.Naming.{message_names, result_names, drop_reasons, class_name, instance_name, attribute_names}
use mathlib.Core.List.{[], ◌∷◌}

a_set : nth_name 8 message_names ≡ codes "Set"
unfolding behind first_name message_names
a_set = refl

an_alarm_walk_goes_on : nth_name 12 message_names ≡ codes "Get all alarms next"
unfolding behind first_name message_names
an_alarm_walk_goes_on = refl

a_number_without_a_message : nth_name 5 message_names ≡ []
unfolding behind first_name message_names
a_number_without_a_message = refl

a_refused_set : nth_name 9 result_names ≡ codes "attribute failed"
unfolding behind first_name result_names
a_refused_set = refl

a_number_without_a_result : nth_name 6 result_names ≡ []
unfolding behind first_name result_names
a_number_without_a_result = refl

a_dropped_report : nth_name 13 drop_reasons ≡ codes "content of wrong length or not legal"
unfolding behind first_name drop_reasons
a_dropped_report = refl

the_link : nth_name 6 (attribute_names 11) ≡ codes "operational state"
unfolding behind first_name attribute_names
the_link = refl

no_attribute_14 : nth_name 14 (attribute_names 11) ≡ []
unfolding behind first_name attribute_names
no_attribute_14 = refl

a_port : instance_name 47 0x0101 ≡ codes "Port configuration 0x0101"
unfolding class_name hex_digits
a_port = refl

no_class_of_ours : class_name 0x63 ≡ codes "unknown class 0x0063"
unfolding class_name hex_digits
no_class_of_ours = refl

two_bytes : hexes (0x0A ∷ 0xF5 ∷ []) ≡ codes "0AF5"
unfolding hexes hex_digits
two_bytes = refl
