-- How the two numbers go on that count, the sync counter and the alarm number. The rules don't use these definitions: the theorems hold the
-- rules against them.
use Rattle.std.specs.Prelude.{ℕ, ◌+◌, ◌<◌, ◌≡◌, ◌≢◌}
use Rattle.rules.specs.Bytes.{number}
use Rattle.rules.specs.Catalogue.{Catalogue}
use Rattle.rules.specs.State.{State, content, contents}

pub record OneOn (before after : ℕ) : Type 0 where
  pub below_255_one_more : before < 255 → after ≡ before + 1
  pub from_255_to_1 : before ≡ 255 → after ≡ 1
  pub never_0 : after ≢ 0

-- the sync counter is the number in attribute 1 of instance 0 of class 2
abbrev pub sync_counter : Catalogue → State → ℕ
sync_counter cat s = number (content 1 (contents cat s.table 2 0))
