-- Tight contracts: none of the worthless engines of document 01 meets the contract of `handle`. An engine is a function of the store,
-- the message and the reply buffer to what it leaves of them; it meets the contract if that is what the definitions say, for every input.
use Prim.Native.Nat.{ℕ, ◌≤◌}
use native.Mathlib.Omega.{arith}
use mathlib.Core.Path.{◌≡◌, refl, sym, ◌∙◌, ap}
use mathlib.Core.Bool.{true}
use mathlib.Core.Option.{none, some}
use mathlib.Core.Logic.{◌≢◌}
use mathlib.Core.List.{List, [], ◌∷◌, ◌++◌}
use lib.ListN.{length, drop, replicate}
use Rattle.rules.specs.Maps.{among}
use Rattle.rules.specs.Bytes.{byte, two, bytes}
use Rattle.rules.specs.Messages.{message_number, contents_in, with_result, reply_to}
use Rattle.rules.specs.State.{Table}
use Rattle.rules.specs.Walks.{sections, frozen}
use Rattle.rules.specs.Reports.{Outcome, dropped, answered}
use Rattle.rules.specs.Run.{message, taken, fresh, after}
use Rattle.rules.specs.Products.{Small, built_products}
use Rattle.rules.proofs.Examples.{call}
use Rattle.rules.proofs.MapLaws.{some_eq, none_some}
use Rattle.store.specs.Decode.{Held, decode}
use Rattle.store.specs.Entries.{Left, enter, power_on}
use Rattle.store.proofs.EntryExamples.{small_store, room, power_on_of_small, create_bridge, create_reply, computing_entries, behind}
use Rattle.legality.proofs.Outcomes.{drop_of, sent}
use Rattle.demands.proofs.DemandOne.{the_outcome_is_the_rules}
use Rattle.demands.proofs.AccidentOnBytes.{Passes, IsNoRepeat, an_upload_counts_the_sections_and_freezes_the_table}

-- from store, message and reply buffer to what is left of them
abbrev pub Engine : Type 0
Engine = List ℕ → List ℕ → List ℕ → Left

-- the contract of `handle`, which leaves one outcome, store and buffer for each input
abbrev pub MeetsTheContract : Engine → Type 0
MeetsTheContract engine = (store m buffer : List ℕ) → engine store m buffer ≡ enter built_products (message m) store buffer

-- there is one that meets it: what the definitions say
pub the_definitions_meet_the_contract : MeetsTheContract (λ store m buffer. enter built_products (message m) store buffer)
the_definitions_meet_the_contract store m buffer = refl

-- the result in a reply
abbrev pub result_in : List ℕ → ℕ
result_in r = byte r 8

-- ---- the runs that shut them out

-- E4's Create: MaxAge 05FF
unfoldable pub create_with_bad_max_age : List ℕ
create_with_bad_max_age = 0 ∷ 1 ∷ 0x44 ∷ 0x0A ∷ 0 ∷ 45 ∷ 0 ∷ 1 ∷ 1 ∷ 1 ∷ 0 ∷ 0x80 ∷ 0 ∷ 0x05 ∷ 0xFF ∷ 2 ∷ 0 ∷ 0x0F ∷ 0 ∷ replicate 21 0 ++ 0 ∷ 0 ∷ 0 ∷
    0x28 ∷ 0 ∷ 0 ∷ 0 ∷ 0 ∷ []

-- its reply: 3, mask 0800
unfoldable pub refused_reply : List ℕ
refused_reply = 0 ∷ 1 ∷ 0x24 ∷ 0x0A ∷ 0 ∷ 45 ∷ 0 ∷ 1 ∷ 3 ∷ 0x08 ∷ 0x00 ∷ replicate 29 0 ++ 0 ∷ 0 ∷ 0 ∷ 0x28 ∷ 0 ∷ 0 ∷ 0 ∷ 0 ∷ []

-- an upload, and the reply with this count
unfoldable pub ask_for_an_upload : List ℕ
ask_for_an_upload = 0 ∷ 2 ∷ 0x4D ∷ 0x0A ∷ 0 ∷ 2 ∷ 0 ∷ 0 ∷ replicate 32 0 ++ 0 ∷ 0 ∷ 0 ∷ 0x28 ∷ 0 ∷ 0 ∷ 0 ∷ 0 ∷ []

unfoldable pub reply_with_count : ℕ → List ℕ
reply_with_count n = 0 ∷ 2 ∷ 0x2D ∷ 0x0A ∷ 0 ∷ 2 ∷ 0 ∷ 0 ∷ 0 ∷ n ∷ replicate 30 0 ++ 0 ∷ 0 ∷ 0 ∷ 0x28 ∷ 0 ∷ 0 ∷ 0 ∷ 0 ∷ []

-- a fresh Small after E3's Create
unfoldable pub after_e3 : List ℕ
after_e3 = (enter built_products (message create_bridge) small_store (room 48)).store

unfoldable pub computing_worthless : ℕ
unfolding computing_entries create_bridge create_reply create_with_bad_max_age refused_reply ask_for_an_upload reply_with_count after_e3
computing_worthless = 0

-- E3 on a fresh Small is answered with 0
pub e3_is_accepted : (enter built_products (message create_bridge) small_store (room 48)).outcome ≡ answered create_reply
unfolding computing_worthless
e3_is_accepted = refl

-- E4 on a fresh Small is answered with 3
pub e4_is_refused : (enter built_products (message create_with_bad_max_age) small_store (room 48)).outcome ≡ answered refused_reply
unfolding computing_worthless
e4_is_refused = refl

-- both are Creates, whose reply has a result
e3_has_a_result : among (message_number create_bridge) with_result ≡ true
unfolding computing_worthless
e3_has_a_result = refl

e4_has_a_result : among (message_number create_with_bad_max_age) with_result ≡ true
unfolding computing_worthless
e4_has_a_result = refl

-- E11's upload counts 1 on a fresh Small
pub the_upload_of_a_fresh_small_counts_1 : (enter built_products (message ask_for_an_upload) small_store (room 48)).outcome ≡ answered (reply_with_count 1)
unfolding computing_worthless
the_upload_of_a_fresh_small_counts_1 = refl

-- E14's upload counts 3 after E3
pub the_upload_after_e3_counts_3 : (enter built_products (message ask_for_an_upload) after_e3 (room 48)).outcome ≡ answered (reply_with_count 3)
unfolding computing_worthless
the_upload_after_e3_counts_3 = refl

-- what the store holds before and after E3
unfoldable pub held_before_e3 : Held
held_before_e3 = record { product = 1; catalogue = Small; state = fresh Small }

unfoldable pub held_after_e3 : Held
held_after_e3 = record { product = 1; catalogue = Small; state = after Small (fresh Small) (call (message create_bridge) ∷ []) }

-- a fresh Small's store holds the fresh state
pub a_fresh_small_holds : decode built_products small_store ≡ some held_before_e3
unfolding computing_worthless held_before_e3
a_fresh_small_holds = refl

-- after E3 it holds the state after E3
pub after_e3_it_holds : decode built_products after_e3 ≡ some held_after_e3
unfolding computing_worthless held_after_e3
after_e3_it_holds = refl

-- the store is what a power-on of some product leaves
pub record Fresh (store : List ℕ) : Type 0 where
  pub product : ℕ
  pub lent : List ℕ
  pub on : power_on built_products product lent ≡ (none, store)

small_is_fresh : Fresh small_store
small_is_fresh = record { product = 1; lent = replicate 3344 0x77 ++ behind; on = power_on_of_small }

-- ---- the five, each with what makes it worthless

-- (a) it drops everything
abbrev pub DropsEverything : Engine → Type 0
DropsEverything engine = (store m buffer : List ℕ) → (n : ℕ) × ((engine store m buffer).outcome ≡ dropped n)

-- (a) it drops or refuses everything: no command whose reply has a result is answered with 0
abbrev pub DropsOrRefusesEverything : Engine → Type 0
DropsOrRefusesEverything engine = (store m buffer r : List ℕ) → among (message_number m) with_result ≡ true → (engine store m buffer).outcome ≡ answered r → result_in r ≢ 0

-- (b) it always replies 0, where the reply has a result
abbrev pub AlwaysReplies0 : Engine → Type 0
AlwaysReplies0 engine = (store m buffer r : List ℕ) → among (message_number m) with_result ≡ true → (engine store m buffer).outcome ≡ answered r → result_in r ≡ 0

-- (c) it replies 0 and stores nothing: after a message that it answers with 0, the store holds the table that it held
abbrev pub Replies0AndStoresNothing : Engine → Type 0
Replies0AndStoresNothing engine = (store m buffer r : List ℕ) → (engine store m buffer).outcome ≡ answered r → result_in r ≡ 0
    → (h k : Held) → decode built_products store ≡ some h → decode built_products (engine store m buffer).store ≡ some k → k.state.table ≡ h.state.table

-- (d) it does its first command after power-on and then copies replies: whatever the next message, its reply has the same contents
abbrev pub CopiesReplies : Engine → Type 0
CopiesReplies engine = (store m next buffer r copy : List ℕ) → Fresh store → (engine store m buffer).outcome ≡ answered r
    → (engine (engine store m buffer).store next buffer).outcome ≡ answered copy → contents_in copy ≡ contents_in r

-- (e) it makes up an upload count: not 1 on a fresh Small, or not 3 on a Small with one bridge
pub data MakesUpTheCount (engine : Engine) : Type 0 where
  of_a_fresh_small : ((r : List ℕ) → (engine small_store ask_for_an_upload (room 48)).outcome ≡ answered r → two r 8 ≢ 1) → MakesUpTheCount engine
  of_one_bridge : ((r : List ℕ) → (engine after_e3 ask_for_an_upload (room 48)).outcome ≡ answered r → two r 8 ≢ 3) → MakesUpTheCount engine

-- (e) on some sound store, with room in the buffer, it answers an upload that is no repeat with another count than the number of sections
pub record CountsSomethingElse (engine : Engine) : Type 0 where
  pub store : List ℕ
  pub holds : Held
  pub held : decode built_products store ≡ some holds
  pub asked : List ℕ
  pub passes : Passes 13 asked
  pub no_repeat : IsNoRepeat holds.state asked
  pub buffer : List ℕ
  pub long : 48 ≤ length buffer
  pub wrong : (engine store asked buffer).outcome ≢ answered (reply_to asked (bytes 2 (length (sections holds.catalogue (frozen holds.state.table)))))

-- (e) it counts without looking: the same number for a fresh Small and for a Small with one bridge
abbrev pub CountsWithoutLooking : Engine → Type 0
CountsWithoutLooking engine = (r q : List ℕ) → (engine small_store ask_for_an_upload (room 48)).outcome ≡ answered r
    → (engine after_e3 ask_for_an_upload (room 48)).outcome ≡ answered q → two r 8 ≡ two q 8

-- ---- none of them meets the contract

module _ (engine : Engine) (meets : MeetsTheContract engine) where
  its_outcome : (store m buffer : List ℕ) {o : Outcome} → (enter built_products (message m) store buffer).outcome ≡ o → (engine store m buffer).outcome ≡ o
  its_outcome store m buffer e = ap (λ (l : Left). l.outcome) (meets store m buffer) ∙ e

  -- (a) No engine that drops everything meets the contract: E3 is answered.
  pub one_that_drops_everything_is_shut_out : DropsEverything engine → ⊥
  one_that_drops_everything_is_shut_out d =
      let x = d small_store create_bridge (room 48) in
      none_some (ap drop_of (sym (its_outcome small_store create_bridge (room 48) e3_is_accepted) ∙ x.1))

  -- (a) Nor does one that drops or refuses everything: E3 is answered with 0.
  pub one_that_drops_or_refuses_everything_is_shut_out : DropsOrRefusesEverything engine → ⊥
  unfolding create_reply
  one_that_drops_or_refuses_everything_is_shut_out d = d small_store create_bridge (room 48) create_reply e3_has_a_result (its_outcome small_store create_bridge (room 48) e3_is_accepted) refl

  -- (b) Nor does one that always replies 0: E4 is answered with 3.
  pub one_that_always_replies_0_is_shut_out : AlwaysReplies0 engine → ⊥
  unfolding refused_reply
  one_that_always_replies_0_is_shut_out d =
      let x : ◌≡◌ {A = ℕ} 3 0 = d small_store create_with_bad_max_age (room 48) refused_reply e4_has_a_result (its_outcome small_store create_with_bad_max_age (room 48) e4_is_refused) in
      absurd (omega arith)

  -- (c) Nor does one that replies 0 and stores nothing: the table after E3 has a created instance, the one before has none.
  pub one_that_replies_0_and_stores_nothing_is_shut_out : Replies0AndStoresNothing engine → ⊥
  unfolding computing_worthless held_before_e3 held_after_e3
  one_that_replies_0_and_stores_nothing_is_shut_out d =
      let stored : (engine small_store create_bridge (room 48)).store ≡ after_e3 = ap (λ (l : Left). l.store) (meets small_store create_bridge (room 48)) in
      let same : held_after_e3.state.table ≡ held_before_e3.state.table =
      d small_store create_bridge (room 48) create_reply (its_outcome small_store create_bridge (room 48) e3_is_accepted) refl held_before_e3 held_after_e3
      a_fresh_small_holds (ap (decode built_products) stored ∙ after_e3_it_holds) in
      let x : ◌≡◌ {A = ℕ} 1 0 = ap (λ (t : Table). length t.created) same in
      absurd (omega arith)

  -- (d) Nor does one that does its first command and then copies replies: E14's upload, asked for after E3, is answered with 3 sections.
  pub one_that_copies_replies_is_shut_out : CopiesReplies engine → ⊥
  unfolding create_reply reply_with_count
  one_that_copies_replies_is_shut_out d =
      let stored : (engine small_store create_bridge (room 48)).store ≡ after_e3 = unfold after_e3 in ap (λ (l : Left). l.store) (meets small_store create_bridge (room 48)) in
      let second : (engine (engine small_store create_bridge (room 48)).store ask_for_an_upload (room 48)).outcome ≡ answered (reply_with_count 3) =
      ap (λ (b : List ℕ). (engine b ask_for_an_upload (room 48)).outcome) stored ∙ its_outcome after_e3 ask_for_an_upload (room 48) the_upload_after_e3_counts_3 in
      let same = d small_store create_bridge ask_for_an_upload (room 48) create_reply (reply_with_count 3) small_is_fresh
      (its_outcome small_store create_bridge (room 48) e3_is_accepted) second in
      let x : ◌≡◌ {A = ℕ} 3 0 = ap (λ (l : List ℕ). byte l 1) same in
      absurd (omega arith)

  -- (e) Nor does one that makes up the count: E11 counts 1 and E14 counts 3.
  pub one_that_makes_up_the_count_is_shut_out : MakesUpTheCount engine → ⊥
  unfolding reply_with_count
  one_that_makes_up_the_count_is_shut_out (of_a_fresh_small d) =
      d (reply_with_count 1) (its_outcome small_store ask_for_an_upload (room 48) the_upload_of_a_fresh_small_counts_1) refl
  one_that_makes_up_the_count_is_shut_out (of_one_bridge d) =
      d (reply_with_count 3) (its_outcome after_e3 ask_for_an_upload (room 48) the_upload_after_e3_counts_3) refl

  -- (e) Nor does one that anywhere answers an upload with another count than the number of sections.
  pub one_that_counts_something_else_is_shut_out : CountsSomethingElse engine → ⊥
  unfolding taken
  one_that_counts_something_else_is_shut_out d = d.wrong (its_outcome d.store d.asked d.buffer
      (the_outcome_is_the_rules built_products (message d.asked) d.store d.buffer d.long d.holds d.held
      ∙ (an_upload_counts_the_sections_and_freezes_the_table d.holds.catalogue d.holds.state d.asked d.passes d.no_repeat).0))

  -- (e) Nor does one that counts without looking at the table: E11 and E14 differ.
  pub one_that_counts_without_looking_is_shut_out : CountsWithoutLooking engine → ⊥
  unfolding reply_with_count
  one_that_counts_without_looking_is_shut_out d =
      let x : ◌≡◌ {A = ℕ} 1 3 = d (reply_with_count 1) (reply_with_count 3) (its_outcome small_store ask_for_an_upload (room 48) the_upload_of_a_fresh_small_counts_1)
      (its_outcome after_e3 ask_for_an_upload (room 48) the_upload_after_e3_counts_3) in
      absurd (omega arith)

-- ---- each description fits an engine, so each theorem shuts one out

-- one that drops everything
pub there_is_one_that_drops_everything : DropsEverything (λ store m buffer. record { outcome = dropped 3; store = store; buffer = buffer })
there_is_one_that_drops_everything store m buffer = (3, refl)

-- one that refuses everything
pub there_is_one_that_refuses_everything :
    DropsOrRefusesEverything (λ store m buffer. record { outcome = answered refused_reply; store = store; buffer = refused_reply ++ drop 48 buffer })
unfolding refused_reply
there_is_one_that_refuses_everything store m buffer r w e y =
    let x : ◌≡◌ {A = ℕ} 3 0 = ap (λ (o : Outcome). result_in (sent o)) e ∙ y in
    absurd (omega arith)

-- one that always replies 0
pub there_is_one_that_always_replies_0 :
    AlwaysReplies0 (λ store m buffer. record { outcome = answered create_reply; store = store; buffer = create_reply ++ drop 48 buffer })
unfolding create_reply
there_is_one_that_always_replies_0 store m buffer r w e = ap (λ (o : Outcome). result_in (sent o)) (sym e)

-- one that replies 0 and stores nothing
pub there_is_one_that_replies_0_and_stores_nothing :
    Replies0AndStoresNothing (λ store m buffer. record { outcome = answered create_reply; store = store; buffer = create_reply ++ drop 48 buffer })
there_is_one_that_replies_0_and_stores_nothing store m buffer r e y h k f g = ap (λ (x : Held). x.state.table) (some_eq (sym g ∙ f))

-- one that copies replies
pub there_is_one_that_copies_replies :
    CopiesReplies (λ store m buffer. record { outcome = answered create_reply; store = store; buffer = create_reply ++ drop 48 buffer })
there_is_one_that_copies_replies store m next buffer r copy f e y = ap (λ (o : Outcome). contents_in (sent o)) (sym y ∙ e)

-- one that counts without looking
pub there_is_one_that_counts_without_looking :
    CountsWithoutLooking (λ store m buffer. record { outcome = answered (reply_with_count 1); store = store; buffer = reply_with_count 1 ++ drop 48 buffer })
there_is_one_that_counts_without_looking r q e y = ap (λ (o : Outcome). two (sent o) 8) (sym e ∙ y)
