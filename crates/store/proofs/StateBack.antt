-- A legal state of a catalogue that fits is read back from its encoding.
use Prim.Native.Nat.{ℕ}
use mathlib.Core.Path.{◌≡◌, refl, ap}
use mathlib.Core.Bool.{true}
use mathlib.Core.Option.{Option, none, some}
use mathlib.Core.List.{List, [], ◌++◌, append-nil}
use lib.ListN.{length}
use lib.Seq.{take_at, drop_at, take_all}
use native.Mathlib.Omega.{arith}
use Rattle.rules.specs.Catalogue.{Catalogue}
use Rattle.rules.specs.State.{Memory, State}
use Rattle.rules.specs.Legal.{automatic_keys, legal_memory, legal_state}
use Rattle.rules.specs.WellFormed.{WellFormed}
use Rattle.rules.proofs.Laws.{both, eqb_eq}
use Rattle.store.specs.Layout.{slot_count, table_length, memory_length, code_table, code_alarms, code_memory, code_optional, parts, encode, fits}
use Rattle.store.specs.Decode.{read_alarms, read_optional, read_memory, read_table, read_state}
use Rattle.store.proofs.Parts.{encode_parts}
use Rattle.store.proofs.TablesBack.{table_back, live_back}
use Rattle.store.proofs.AlarmsBack.{live_alarms_back, walk_back}

-- ---- what may be absent

pub optional_back : {A : Type 0} (n : ℕ) (code : A → List ℕ) (reading : List ℕ → A) (o : Option A) → ((a : A) → o ≡ some a → reading (code a) ≡ a)
    → read_optional reading (code_optional n code o) ≡ o
unfolding read_optional code_optional
optional_back n code reading none h = refl
optional_back n code reading (some a) h = ap some (h a refl)

pub memory_back : (r : Memory) → legal_memory r ≡ true → read_memory (code_memory r) ≡ r
unfolding read_memory code_memory legal_memory
memory_back r h =
    let a = both h in
    let b = both (both (both a.1).1).1 in
    let c : length r.command ≡ 40 = eqb_eq (length r.command) 40 a.0 in
    let d : length r.reply ≡ 48 = eqb_eq (length r.reply) 48 b.0 in
    rw (take_at r.command r.reply 40 c, drop_at r.command r.reply 40 c, take_all 48 r.reply (omega arith))

-- ---- the state

pub read_back_front : (p : ℕ) (cat : Catalogue) (s : State) (rest : List ℕ) → WellFormed cat → fits cat ≡ true → legal_state cat s ≡ true
    → read_state cat (encode p cat s ++ rest) ≡ s
unfolding read_state parts legal_state
read_back_front p cat s rest w f h =
    let a = both h in
    let b = both a.1 in
    let c = both b.1 in
    let d = both c.1 in
    let e = both d.1 in
    rw (
      encode_parts p cat s rest d.0,
      live_back cat w f s.table a.0,
      live_alarms_back cat w f s.table s.alarms a.0 b.0,
      optional_back memory_length code_memory read_memory s.remembered (λ r y. memory_back r (rw y at d.0)),
      optional_back table_length code_table (read_table cat) s.upload (λ t y. table_back cat w f t (rw y at e.0)),
      optional_back slot_count (code_alarms cat) (read_alarms (automatic_keys cat)) s.walk (λ m y. walk_back cat w f m (rw y at e.1)),
    )

pub read_back : (p : ℕ) (cat : Catalogue) (s : State) → WellFormed cat → fits cat ≡ true → legal_state cat s ≡ true → read_state cat (encode p cat s) ≡ s
read_back p cat s w f h = rw (append-nil (encode p cat s)) at (read_back_front p cat s [] w f h)
