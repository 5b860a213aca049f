use Rattle.std.proofs.Common.{◌&&◌, drop, refl, ◌∙◌, rules}
use Rattle.rules.specs.Maps.{◌and◌}
use Rattle.rules.specs.Bytes.{all_zero}
use Rattle.rules.proofs.ByteLaws.{known_bytes}
use Rattle.class_tables.specs.declared.Product.TheVariants.{Large}
use Rattle.class_tables.specs.Built.{provisioned}
use Rattle.class_tables.specs.Computing.{computing_tables}
use Rattle.class_tests.specs.ContentTests.{contents_test, computing_tests}
use Rattle.class_tests.proofs.Entries.{profile_filled, profile_narrow}
use Rattle.class_tests.proofs.profile_ok.Goals as goal

pub returns-then-profile_fills : goal.returns-then-profile_fills
returns-then-profile_fills c =
    let b = c.args.c.now in
    rw (
      c.between-delay.ensures,
      c.between-hello.ensures,
      c.between-age.ensures,
      c.number_at-3.ensures,
      c.number_at-2.ensures,
      c.number_at.ensures,
    )
    (◌∙◌ {b = contents_test Large 45 b} (unfold computing_tables computing_tests in refl)
    (profile_filled b (search rules) (known_bytes b (λ i. (c.type_inv.c i).fits)) c.args.product c.profile_fills.ensures c.if-profile_fills.true))

pub returns-else-profile_fills : goal.returns-else-profile_fills
returns-else-profile_fills c =
    let b = c.args.c.now in
    rw (
      c.between-delay.ensures,
      c.between-hello.ensures,
      c.between-age.ensures,
      c.number_at-3.ensures,
      c.number_at-2.ensures,
      c.number_at.ensures,
      c.provisioned.ensures,
      c.zeros_from.ensures,
    )
    (◌∙◌ {b = (contents_test Large 45 b && provisioned c.args.product) && all_zero (drop 31 b)} (unfold computing_tables computing_tests in refl)
    (unfold ◌and◌ in profile_narrow b (search rules) (known_bytes b (λ i. (c.type_inv.c i).fits)) c.args.product c.profile_fills.ensures c.if-profile_fills.false))
