use Rattle.std.proofs.Common.{sym, refl, ◌∙◌, arith, rules}
use Rattle.rules.specs.Maps.{◌and◌}
use Rattle.rules.specs.Catalogue.{key}
use Rattle.rules.proofs.ByteLaws.{known_bytes}
use Rattle.class_tables.specs.Built.{cat_of}
use Rattle.place_runs.proofs.Places.{in_runs, run_within}
use Rattle.place_runs.proofs.Created.{places_in_runs}
use Rattle.place_runs.proofs.places_ok.Statement.{statement}
use Rattle.place_runs.proofs.places_ok.Tie as tie

returns : tie.Need-returns-in_default
unfolding in_runs
returns c =
    let start = c.before.before in
    let a = start.args in
    let known = known_bytes a.b.now (λ i. (start.shared_slice_known-1.given i).fits) in
    sym (places_in_runs a.product a.b.now known a.n ∙ rw (sym c.profiles.ensures ∙ c.in_default.is) refl)

ports_requires : tie.Need-ports-requires
ports_requires c κs =
    let first = c.before in
    let start = first.before in
    let a = start.args in
    let known = known_bytes a.b.now (λ i. (start.shared_slice_known-1.given i).fits) in
    record {
      begins = run_within (cat_of a.product) a.b.now known a.n 45 _ 0 (key 45 0) _ (omega arith) (sym first.profiles.ensures ∙ c.in-Some.is);
      few = search rules;
      long = search rules;
    }

returns-2 : tie.Need-returns-in_default-ports
unfolding in_runs
returns-2 c =
    let second = c.before in
    let first = second.before.before in
    let start = first.before in
    let a = start.args in
    let known = known_bytes a.b.now (λ i. (start.shared_slice_known-1.given i).fits) in
    sym (places_in_runs a.product a.b.now known a.n
    ∙ rw (sym first.profiles.ensures ∙ second.in-Some.is, sym second.ports.ensures ∙ c.in_default-ports.is) refl)

returns-3 : tie.Need-returns
unfolding in_runs ◌and◌
returns-3 c =
    let second = c.before.before in
    let first = second.before.before in
    let start = first.before in
    let a = start.args in
    let known = known_bytes a.b.now (λ i. (start.shared_slice_known-1.given i).fits) in
    rw c.zeros_from.ensures (sym (places_in_runs a.product a.b.now known a.n
    ∙ rw (sym first.profiles.ensures ∙ second.in-Some.is, sym second.ports.ensures ∙ c.in-Some-ports.is) refl))

pub places_ok_spec : {M : Type 1} → statement M
places_ok_spec =
    tie.close
    (tie.spec
    (λ c κs. search rules)
    (λ c. search rules)
    (λ c. search rules)
    returns
    ports_requires
    (λ c. search rules)
    (λ c. search rules)
    returns-2
    (λ c. search rules)
    (λ c κs. search rules)
    returns-3)
