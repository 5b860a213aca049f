-- A legal state, part by part.
use Prim.Native.Nat.{ℕ, ◌<◌}
use mathlib.Core.Path.{◌≡◌}
use mathlib.Core.Bool.{true}
use Rattle.rules.specs.Maps.{given, Map}
use Rattle.rules.specs.Bytes.{are_bytes}
use Rattle.rules.specs.Catalogue.{Catalogue}
use Rattle.rules.specs.State.{Table, State, holds, with_table, with_alarm_number, Memory, with_memory, Alarms, with_upload, with_alarms, with_walk}
use Rattle.rules.specs.Legal.{legal_frozen, legal_bitmaps, legal_walk, legal_memory, legal_state}
use Rattle.rules.specs.Messages.{Answer}
use Rattle.rules.specs.WellFormed.{WellFormed}
use Rattle.rules.proofs.Laws.{both, and_true, ltb_lt, lt-ltb}
use Rattle.rules.proofs.Standing.{standing}
use Rattle.legality.proofs.Tables.{LegalLive, open_table, close_table}
use Rattle.legality.proofs.AlarmsKept.{still_legal}
use mathlib.Core.Option.{Option, some}

module _ (cat : Catalogue) (wf : WellFormed cat) where
  pub record LegalState (s : State) : Type 0 where
    pub its_table : LegalLive cat wf s.table
    pub its_alarms : legal_bitmaps cat (holds cat s.table) s.alarms ≡ true
    pub its_number : s.alarm_number < 256
    pub its_memory : given s.remembered true legal_memory ≡ true
    pub its_upload : given s.upload true (legal_frozen cat) ≡ true
    pub its_walk : given s.walk true (legal_walk cat) ≡ true

  pub open_state : (s : State) → legal_state cat s ≡ true → LegalState s
  unfolding legal_state
  open_state s h =
      let h₁ = both h in
      let h₂ = both h₁.1 in
      let h₃ = both h₂.1 in
      let h₄ = both h₃.1 in
      let h₅ = both h₄.1 in
      record {
        its_table = open_table cat wf (standing cat wf) s.table h₁.0;
        its_alarms = h₂.0;
        its_number = ltb_lt s.alarm_number 256 h₃.0;
        its_memory = h₄.0;
        its_upload = h₅.0;
        its_walk = h₅.1;
      }

  pub close_state : (s : State) → LegalState s → legal_state cat s ≡ true
  unfolding legal_state
  close_state s h =
      and_true (close_table cat wf (standing cat wf) s.table h.its_table) (and_true h.its_alarms (and_true (lt-ltb s.alarm_number 256 h.its_number)
      (and_true h.its_memory (and_true h.its_upload h.its_walk))))

  -- another table that holds at least the same instances
  pub with_table_legal : (s : State) (t : Table) → LegalState s → LegalLive cat wf t → ((c i : ℕ) → holds cat s.table c i ≡ true → holds cat t c i ≡ true)
      → LegalState (with_table t s)
  with_table_legal s t h l f = record {
    its_table = l;
    its_alarms = still_legal cat (holds cat s.table) (holds cat t) s.alarms f h.its_alarms;
    its_number = h.its_number;
    its_memory = h.its_memory;
    its_upload = h.its_upload;
    its_walk = h.its_walk;
  }

  -- ---- a state with one part changed, or two

  pub with_alarms_legal : (s : State) (t : Table) (m : Map Alarms) → LegalState s → LegalLive cat wf t → legal_bitmaps cat (holds cat t) m ≡ true
      → LegalState (with_table t (with_alarms m s))
  with_alarms_legal s t m h l a = record {
    its_table = l;
    its_alarms = a;
    its_number = h.its_number;
    its_memory = h.its_memory;
    its_upload = h.its_upload;
    its_walk = h.its_walk;
  }

  pub with_number_legal : (s : State) (n : ℕ) → LegalState s → n < 256 → LegalState (with_alarm_number n s)
  with_number_legal s n h l = record {
    its_table = h.its_table;
    its_alarms = h.its_alarms;
    its_number = l;
    its_memory = h.its_memory;
    its_upload = h.its_upload;
    its_walk = h.its_walk;
  }

  pub with_memory_legal : (s : State) (r : Memory) → LegalState s → legal_memory r ≡ true → LegalState (with_memory (some r) s)
  with_memory_legal s r h l = record {
    its_table = h.its_table;
    its_alarms = h.its_alarms;
    its_number = h.its_number;
    its_memory = l;
    its_upload = h.its_upload;
    its_walk = h.its_walk;
  }

  pub with_upload_legal : (s : State) (u : Option Table) → LegalState s → given u true (legal_frozen cat) ≡ true → LegalState (with_upload u s)
  with_upload_legal s u h l = record {
    its_table = h.its_table;
    its_alarms = h.its_alarms;
    its_number = h.its_number;
    its_memory = h.its_memory;
    its_upload = l;
    its_walk = h.its_walk;
  }

  pub with_walk_legal : (s : State) (w : Option (Map Alarms)) → LegalState s → given w true (legal_walk cat) ≡ true → LegalState (with_walk w s)
  with_walk_legal s w h l = record {
    its_table = h.its_table;
    its_alarms = h.its_alarms;
    its_number = h.its_number;
    its_memory = h.its_memory;
    its_upload = h.its_upload;
    its_walk = l;
  }

  -- an answer that leaves a legal state, with bytes for contents
  pub record Good (a : Answer) : Type 0 where
    pub its_state : LegalState a.0
    pub its_contents : are_bytes a.1 ≡ true
