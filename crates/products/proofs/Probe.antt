-- The catalogue on which the limits are shown is well formed, by the same laws as the products.
use mathlib.Core.Path.{refl}
use Rattle.rules.specs.Catalogue.{key}
use Rattle.rules.specs.WellFormed.{WellFormed}
use Rattle.rules.proofs.Laws.{◌&◌}
use Rattle.rules.proofs.Limits.{full_class, Probe, computing_probe}
use Rattle.products.proofs.Plain.{free, AllPlain}
use Rattle.products.proofs.Attributes.{carried_plain, ont_data_plain}
use Rattle.products.proofs.WellFormed.{well_formed, testing}

probe_plain : AllPlain Probe
unfolding testing computing_probe
probe_plain =
    ont_data_plain
    & (free (λ v others. refl) & free (λ v others. refl) & free (λ v others. refl) & free (λ v others. refl) & tt)
    & carried_plain full_class.attributes refl
    & tt

pub probe_is_well_formed : WellFormed Probe
unfolding testing computing_probe
probe_is_well_formed = well_formed Probe (key 100 7) (key 100 8) (refl, refl, refl) probe_plain refl refl refl
