-- Tight contracts, of engines that are lent bytes: none of the worthless engines of document 01 meets the contract of `handle`, said of inputs of bytes
-- alone. What an engine does with lists that aren't bytes, which no caller can lend, is left open, in the contract and in what makes an engine worthless.
-- (`Worthless` says it of all lists. Two more engines are shut out here: one that stores the sync counter alone, and one that copies the reply that the store
-- remembers at some point of a run.)
use Prim.Native.Nat.{ℕ, ◌≤◌}
use native.Mathlib.Omega.{arith}
use mathlib.Core.Path.{◌≡◌, refl, sym, ◌∙◌, ap}
use mathlib.Core.Bool.{true, false}
use mathlib.Core.Option.{none, some}
use mathlib.Core.Logic.{◌≢◌}
use mathlib.Core.List.{List, [], ◌∷◌, ◌++◌}
use lib.ListN.{length, take, drop, replicate}
use Rattle.rules.specs.Maps.{◌and◌, given, among, first_that_applies}
use Rattle.rules.specs.Bytes.{byte, two, bytes, are_bytes}
use Rattle.rules.specs.State.{Table, Memory, State, contents, content, with_table}
use Rattle.rules.specs.Messages.{message_number, class_in, instance_in, contents_in, message_drops, with_result, reply_to}
use Rattle.rules.specs.Commands.{move_counter}
use Rattle.rules.specs.Walks.{sections, frozen, upload, if_ont_data}
use Rattle.rules.specs.Reports.{Outcome, dropped, answered, unless_dropped}
use Rattle.rules.specs.Run.{answer, is_repeat, answer_anew, answer_again, handle, message, taken}
use Rattle.rules.specs.Products.{built_products}
use Rattle.rules.proofs.Laws.{cases, same_eq}
use Rattle.rules.proofs.MapLaws.{some_eq, none_some}
use Rattle.store.specs.Decode.{Held, decode}
use Rattle.store.specs.Entries.{Left, written, enter, power_on}
use Rattle.store.proofs.Built.{built_products_fit}
use Rattle.store.proofs.EntryExamples.{small_store, room, power_on_of_small, create_bridge, create_reply, behind}
use Rattle.store.proofs.Soundness.{sound_is_an_encoding, decode_of_written}
use Rattle.legality.proofs.Counter.{move_counter_legal}
use Rattle.legality.proofs.LegalStates.{open_state, close_state, with_table_legal}
use Rattle.legality.proofs.Outcomes.{drop_of, sent}
use Rattle.demands.proofs.DemandOne.{the_outcome_is_the_rules}
use Rattle.demands.specs.Repeating.{IsNoRepeat}
use Rattle.demands.proofs.FrozenOnBytes.{Passes, command_is_done, walks_are_done, another_id}
use Rattle.demands.proofs.Worthless.{Engine, result_in, create_with_bad_max_age, refused_reply, ask_for_an_upload, reply_with_count, after_e3, computing_worthless}
use Rattle.demands.proofs.Worthless.{held_before_e3, held_after_e3, a_fresh_small_holds, after_e3_it_holds, MakesUpTheCount, of_a_fresh_small, of_one_bridge, CountsWithoutLooking}
use Rattle.demands.proofs.Creates.{moved_content, moved_holds}

-- what is lent to an engine is bytes: a `&[u8]` holds numbers below 256
pub record AreBytes (store m buffer : List ℕ) : Type 0 where
  pub its_store : are_bytes store ≡ true
  pub its_message : are_bytes m ≡ true
  pub its_buffer : are_bytes buffer ≡ true

-- the contract of `handle`, which leaves one outcome, store and buffer for each input of bytes, and says nothing of other lists
abbrev pub MeetsTheContract : Engine → Type 0
MeetsTheContract engine = (store m buffer : List ℕ) → AreBytes store m buffer → engine store m buffer ≡ enter built_products (message m) store buffer

-- there is one that meets it: what the definitions say
pub the_definitions_meet_the_contract : MeetsTheContract (λ store m buffer. enter built_products (message m) store buffer)
the_definitions_meet_the_contract store m buffer lent = refl

-- ---- the runs that shut them out

-- what is lent in these runs is bytes
e3_is_bytes : AreBytes small_store create_bridge (room 48)
unfolding computing_worthless
e3_is_bytes = record { its_store = refl; its_message = refl; its_buffer = refl }

e4_is_bytes : AreBytes small_store create_with_bad_max_age (room 48)
unfolding computing_worthless
e4_is_bytes = record { its_store = refl; its_message = refl; its_buffer = refl }

e11_is_bytes : AreBytes small_store ask_for_an_upload (room 48)
unfolding computing_worthless
e11_is_bytes = record { its_store = refl; its_message = refl; its_buffer = refl }

e14_is_bytes : AreBytes after_e3 ask_for_an_upload (room 48)
unfolding computing_worthless
e14_is_bytes = record { its_store = refl; its_message = refl; its_buffer = refl }

-- the store is what a power-on of some product leaves in a store of bytes
pub record Fresh (store : List ℕ) : Type 0 where
  pub product : ℕ
  pub lent : List ℕ
  pub its_bytes : are_bytes lent ≡ true
  pub on : power_on built_products product lent ≡ (none, store)

small_is_fresh : Fresh small_store
unfolding computing_worthless
small_is_fresh = record { product = 1; lent = replicate 3344 0x77 ++ behind; its_bytes = refl; on = power_on_of_small }

-- ---- the five, each with what makes it worthless

-- (a) it drops everything
abbrev pub DropsEverything : Engine → Type 0
DropsEverything engine = (store m buffer : List ℕ) → AreBytes store m buffer → (n : ℕ) × ((engine store m buffer).outcome ≡ dropped n)

-- a command whose reply has a result is answered with r
pub record IsAnswered (engine : Engine) (store m buffer r : List ℕ) : Type 0 where
  pub lent : AreBytes store m buffer
  pub has_a_result : among (message_number m) with_result ≡ true
  pub its_reply : (engine store m buffer).outcome ≡ answered r

-- (a) it drops or refuses everything: no command whose reply has a result is answered with 0
abbrev pub DropsOrRefusesEverything : Engine → Type 0
DropsOrRefusesEverything engine = (store m buffer r : List ℕ) → IsAnswered engine store m buffer r → result_in r ≢ 0

-- (b) it always replies 0, where the reply has a result
abbrev pub AlwaysReplies0 : Engine → Type 0
AlwaysReplies0 engine = (store m buffer r : List ℕ) → IsAnswered engine store m buffer r → result_in r ≡ 0

-- (c) it replies 0 and stores nothing: after a command that it answers with 0, the store holds the table that it held
abbrev pub Replies0AndStoresNothing : Engine → Type 0
Replies0AndStoresNothing engine = (store m buffer r : List ℕ) → IsAnswered engine store m buffer r → result_in r ≡ 0
    → (h k : Held) → decode built_products store ≡ some h → decode built_products (engine store m buffer).store ≡ some k → k.state.table ≡ h.state.table

-- (c) it replies 0 and stores nothing but the sync counter: after a command that it answers with 0, each stored attribute n of each instance i
-- of each class c, but attribute 1 of instance 0 of class 2, has the content that it had
abbrev pub Replies0AndStoresTheCounterAlone : Engine → Type 0
Replies0AndStoresTheCounterAlone engine = (store m buffer r : List ℕ) → IsAnswered engine store m buffer r → result_in r ≡ 0
    → (h k : Held) → decode built_products store ≡ some h → decode built_products (engine store m buffer).store ≡ some k
    → (c i n : ℕ) → (c ≡ 2 → i ≡ 0 → n ≢ 1)
    → content n (contents k.catalogue k.state.table c i) ≡ content n (contents h.catalogue h.state.table c i)

-- (d) it does its first command after power-on and then copies replies: whatever the next message, its reply has the same contents
abbrev pub CopiesReplies : Engine → Type 0
CopiesReplies engine = (store m next buffer r copy : List ℕ) → Fresh store → AreBytes store m buffer → are_bytes next ≡ true
    → (engine store m buffer).outcome ≡ answered r → (engine (engine store m buffer).store next buffer).outcome ≡ answered copy
    → contents_in copy ≡ contents_in r

-- the contents of the reply that the rules give to a command that is no repeat
abbrev pub contents_by_the_rules : Held → List ℕ → List ℕ
contents_by_the_rules h m = contents_in (reply_to m (answer h.catalogue h.state (message_number m) (class_in m) (instance_in m) (contents_in m)).1)

-- (d) at some point of a run it copies a reply: on some sound store, with room in the buffer, it answers a command that passes the drops and is
-- no repeat (its first 40 bytes aren't those of the last answered command) with the contents of the reply that the store remembers, where the rules'
-- reply has other contents
pub record CopiesTheRememberedReply (engine : Engine) : Type 0 where
  pub store : List ℕ
  pub holds : Held
  pub held : decode built_products store ≡ some holds
  pub last : Memory
  pub remembers : holds.state.remembered ≡ some last
  pub command : List ℕ
  pub no_drop : first_that_applies (message_drops command) ≡ none
  pub no_repeat : take 40 command ≢ last.command
  pub buffer : List ℕ
  pub lent : AreBytes store command buffer
  pub long : 48 ≤ length buffer
  pub the_rules_differ : contents_by_the_rules holds command ≢ contents_in last.reply
  pub copy : List ℕ
  pub its_reply : (engine store command buffer).outcome ≡ answered copy
  pub copied : contents_in copy ≡ contents_in last.reply

-- (e) on some sound store, with room in the buffer, it answers an upload that is no repeat with another count than the number of sections
pub record CountsSomethingElse (engine : Engine) : Type 0 where
  pub store : List ℕ
  pub holds : Held
  pub held : decode built_products store ≡ some holds
  pub asked : List ℕ
  pub passes : Passes 13 asked
  pub no_repeat : IsNoRepeat holds.state asked
  pub buffer : List ℕ
  pub lent : AreBytes store asked buffer
  pub long : 48 ≤ length buffer
  pub wrong : (engine store asked buffer).outcome ≢ answered (reply_to asked (bytes 2 (length (sections holds.catalogue (frozen holds.state.table)))))

-- ---- none of them meets the contract

-- the run that shuts an engine out is computed in the theorem itself, so that a wrong rule breaks the theorem and no lemma before it
module _ (engine : Engine) (meets : MeetsTheContract engine) where
  its_outcome : (store m buffer : List ℕ) → AreBytes store m buffer → {o : Outcome} → (enter built_products (message m) store buffer).outcome ≡ o → (engine store m buffer).outcome ≡ o
  its_outcome store m buffer lent e = ap (λ (l : Left). l.outcome) (meets store m buffer lent) ∙ e

  stores_e3 : (engine small_store create_bridge (room 48)).store ≡ after_e3
  unfolding after_e3
  stores_e3 = ap (λ (l : Left). l.store) (meets small_store create_bridge (room 48) e3_is_bytes)

  -- (a) No engine that drops everything meets the contract: E3 is answered.
  pub one_that_drops_everything_is_shut_out : DropsEverything engine → ⊥
  unfolding computing_worthless
  one_that_drops_everything_is_shut_out d =
      none_some (ap drop_of (sym (its_outcome small_store create_bridge (room 48) e3_is_bytes {o = answered create_reply} refl) ∙ (d small_store create_bridge (room 48) e3_is_bytes).1))

  -- (a) Nor does one that drops or refuses everything: E3 is answered with 0.
  pub one_that_drops_or_refuses_everything_is_shut_out : DropsOrRefusesEverything engine → ⊥
  unfolding computing_worthless
  one_that_drops_or_refuses_everything_is_shut_out d = d small_store create_bridge (room 48) create_reply
      (record { lent = e3_is_bytes; has_a_result = refl; its_reply = its_outcome small_store create_bridge (room 48) e3_is_bytes refl }) refl

  -- (b) Nor does one that always replies 0: E4 is answered with 3.
  pub one_that_always_replies_0_is_shut_out : AlwaysReplies0 engine → ⊥
  unfolding computing_worthless
  one_that_always_replies_0_is_shut_out d =
      let x : ◌≡◌ {A = ℕ} 3 0 = d small_store create_with_bad_max_age (room 48) refused_reply
      (record { lent = e4_is_bytes; has_a_result = refl; its_reply = its_outcome small_store create_with_bad_max_age (room 48) e4_is_bytes refl }) in
      absurd (omega arith)

  e3_is_answered : IsAnswered engine small_store create_bridge (room 48) create_reply
  unfolding computing_worthless
  e3_is_answered = record { lent = e3_is_bytes; has_a_result = refl; its_reply = its_outcome small_store create_bridge (room 48) e3_is_bytes refl }

  -- (c) Nor does one that replies 0 and stores nothing: the table after E3 has a created instance, the one before has none.
  pub one_that_replies_0_and_stores_nothing_is_shut_out : Replies0AndStoresNothing engine → ⊥
  unfolding computing_worthless held_before_e3 held_after_e3
  one_that_replies_0_and_stores_nothing_is_shut_out d =
      let same : held_after_e3.state.table ≡ held_before_e3.state.table =
      d small_store create_bridge (room 48) create_reply e3_is_answered refl held_before_e3 held_after_e3 a_fresh_small_holds (ap (decode built_products) stores_e3 ∙ after_e3_it_holds) in
      let x : ◌≡◌ {A = ℕ} 1 0 = ap (λ (t : Table). length t.created) same in
      absurd (omega arith)

  -- (c) Nor does one that replies 0 and stores nothing but the sync counter: after E3 attribute 1 of the new bridge is 1.
  pub one_that_replies_0_and_stores_the_counter_alone_is_shut_out : Replies0AndStoresTheCounterAlone engine → ⊥
  unfolding computing_worthless held_before_e3 held_after_e3
  one_that_replies_0_and_stores_the_counter_alone_is_shut_out d =
      let same : ◌≡◌ {A = List ℕ} (1 ∷ []) [] =
      d small_store create_bridge (room 48) create_reply e3_is_answered refl held_before_e3 held_after_e3 a_fresh_small_holds (ap (decode built_products) stores_e3 ∙ after_e3_it_holds)
      45 1 1 (λ p q. let z : ◌≡◌ {A = ℕ} 45 2 = p in absurd (omega arith)) in
      let x : ◌≡◌ {A = ℕ} 1 0 = ap length same in
      absurd (omega arith)

  -- (d) Nor does one that does its first command and then copies replies: E14's upload, asked for after E3, is answered with 3 sections.
  pub one_that_copies_replies_is_shut_out : CopiesReplies engine → ⊥
  unfolding computing_worthless
  one_that_copies_replies_is_shut_out d =
      let second : (engine (engine small_store create_bridge (room 48)).store ask_for_an_upload (room 48)).outcome ≡ answered (reply_with_count 3) =
      ap (λ (b : List ℕ). (engine b ask_for_an_upload (room 48)).outcome) stores_e3 ∙ its_outcome after_e3 ask_for_an_upload (room 48) e14_is_bytes refl in
      let same = d small_store create_bridge ask_for_an_upload (room 48) create_reply (reply_with_count 3) small_is_fresh e3_is_bytes e14_is_bytes.its_message
      e3_is_answered.its_reply second in
      let x : ◌≡◌ {A = ℕ} 3 0 = ap (λ (l : List ℕ). byte l 1) same in
      absurd (omega arith)

  -- (d) Nor does one that at some point of a run copies the remembered reply: a command that is no repeat is answered anew.
  pub one_that_copies_the_remembered_reply_is_shut_out : CopiesTheRememberedReply engine → ⊥
  unfolding taken handle unless_dropped answer_again answer_anew is_repeat
  one_that_copies_the_remembered_reply_is_shut_out d =
      let anew : is_repeat d.command d.last ≡ false =
      cases (is_repeat d.command d.last) (λ e. absurd (d.no_repeat (same_eq (take 40 d.command) d.last.command e))) (λ e. e) in
      let rules : (enter built_products (message d.command) d.store d.buffer).outcome ≡ answered (reply_to d.command
      (answer d.holds.catalogue d.holds.state (message_number d.command) (class_in d.command) (instance_in d.command) (contents_in d.command)).1) =
      the_outcome_is_the_rules built_products (message d.command) d.store d.buffer d.long d.holds d.held ∙ rw (d.no_drop, d.remembers, anew) refl in
      d.the_rules_differ (ap (λ (o : Outcome). contents_in (sent o)) (sym (its_outcome d.store d.command d.buffer d.lent rules) ∙ d.its_reply) ∙ d.copied)

  -- (e) Nor does one that makes up the count: E11 counts 1 and E14 counts 3.
  pub one_that_makes_up_the_count_is_shut_out : MakesUpTheCount engine → ⊥
  unfolding computing_worthless
  one_that_makes_up_the_count_is_shut_out (of_a_fresh_small d) = d (reply_with_count 1) (its_outcome small_store ask_for_an_upload (room 48) e11_is_bytes refl) refl
  one_that_makes_up_the_count_is_shut_out (of_one_bridge d) = d (reply_with_count 3) (its_outcome after_e3 ask_for_an_upload (room 48) e14_is_bytes refl) refl

  -- (e) Nor does one that anywhere answers an upload with another count than the number of sections.
  pub one_that_counts_something_else_is_shut_out : CountsSomethingElse engine → ⊥
  unfolding taken answer_anew upload if_ont_data ◌and◌
  one_that_counts_something_else_is_shut_out d =
      let m : List ℕ = d.asked in
      let counted = ap (λ (x : State × Outcome). x.1) (command_is_done d.holds.catalogue d.holds.state m 13 (upload d.holds.catalogue d.holds.state 2 0)
      d.passes d.no_repeat (walks_are_done d.holds.catalogue d.holds.state (contents_in m)).0) in
      d.wrong (its_outcome d.store m d.buffer d.lent
      (the_outcome_is_the_rules built_products (message m) d.store d.buffer d.long d.holds d.held ∙ counted))

  -- (e) Nor does one that counts without looking at the table: E11 and E14 differ.
  pub one_that_counts_without_looking_is_shut_out : CountsWithoutLooking engine → ⊥
  unfolding computing_worthless
  one_that_counts_without_looking_is_shut_out d =
      let x : ◌≡◌ {A = ℕ} 1 3 = d (reply_with_count 1) (reply_with_count 3) (its_outcome small_store ask_for_an_upload (room 48) e11_is_bytes refl)
      (its_outcome after_e3 ask_for_an_upload (room 48) e14_is_bytes refl) in
      absurd (omega arith)

-- ---- each description fits an engine, so each theorem shuts one out

-- one that drops everything
pub there_is_one_that_drops_everything : DropsEverything (λ store m buffer. record { outcome = dropped 3; store = store; buffer = buffer })
there_is_one_that_drops_everything store m buffer lent = (3, refl)

-- one that refuses everything
pub there_is_one_that_refuses_everything :
    DropsOrRefusesEverything (λ store m buffer. record { outcome = answered refused_reply; store = store; buffer = refused_reply ++ drop 48 buffer })
unfolding refused_reply
there_is_one_that_refuses_everything store m buffer r a y =
    let x : ◌≡◌ {A = ℕ} 3 0 = ap (λ (o : Outcome). result_in (sent o)) a.its_reply ∙ y in
    absurd (omega arith)

-- one that always replies 0 and leaves everything as it was
abbrev pub replies_0 : Engine
replies_0 store m buffer = record { outcome = answered create_reply; store = store; buffer = create_reply ++ drop 48 buffer }

pub there_is_one_that_always_replies_0 : AlwaysReplies0 replies_0
unfolding create_reply
there_is_one_that_always_replies_0 store m buffer r a = ap (λ (o : Outcome). result_in (sent o)) (sym a.its_reply)

-- it stores nothing
pub there_is_one_that_replies_0_and_stores_nothing : Replies0AndStoresNothing replies_0
there_is_one_that_replies_0_and_stores_nothing store m buffer r a y h k f g = ap (λ (x : Held). x.state.table) (some_eq (sym g ∙ f))

-- its replies are copies
pub there_is_one_that_copies_replies : CopiesReplies replies_0
there_is_one_that_copies_replies store m next buffer r copy f b c e y = ap (λ (o : Outcome). contents_in (sent o)) (sym y ∙ e)

-- one that replies 0, moves the sync counter on and stores nothing else
abbrev pub with_its_counter_moved : Held → State
with_its_counter_moved h = with_table (move_counter h.catalogue h.state.table) h.state

abbrev pub moves_the_counter_alone : Engine
moves_the_counter_alone store m buffer = record {
  outcome = answered create_reply;
  store = given (decode built_products store) store (λ h. written h (with_its_counter_moved h) store);
  buffer = create_reply ++ drop 48 buffer;
}

pub there_is_one_that_replies_0_and_stores_the_counter_alone : Replies0AndStoresTheCounterAlone moves_the_counter_alone
there_is_one_that_replies_0_and_stores_the_counter_alone store m buffer r a y h k f g c i n other =
    let e = sound_is_an_encoding built_products store h f in
    let wf = built_products_fit.well_formed h.product h.catalogue e.0 in
    let s = open_state h.catalogue wf h.state e.1 in
    let legal = close_state h.catalogue wf (with_its_counter_moved h) (with_table_legal h.catalogue wf h.state (move_counter h.catalogue h.state.table) s
    (move_counter_legal h.catalogue wf h.state.table s.its_table) (λ d j z. moved_holds h.catalogue wf h.state.table d j ∙ z)) in
    let stored : decode built_products (written h (with_its_counter_moved h) store) ≡ some k = rw f at g in
    let left = some_eq (sym stored ∙ decode_of_written built_products built_products_fit h (with_its_counter_moved h) store e.0 legal) in
    ap (λ (x : Held). content n (contents x.catalogue x.state.table c i)) left ∙ moved_content h.catalogue wf h.state.table c i n other

-- one that does its first command and then gives the reply that it remembers to every other
abbrev pub copies_the_remembered_reply : Engine
copies_the_remembered_reply store m buffer = given (decode built_products store) (enter built_products (message m) store buffer) (λ h.
    given h.state.remembered (enter built_products (message m) store buffer) (λ r.
    record { outcome = answered r.reply; store = store; buffer = r.reply ++ drop 48 buffer }))

pub there_is_one_that_copies_the_remembered_reply : CopiesTheRememberedReply copies_the_remembered_reply
unfolding computing_worthless held_after_e3
there_is_one_that_copies_the_remembered_reply = record {
  store = after_e3;
  holds = held_after_e3;
  held = after_e3_it_holds;
  last = record { command = take 40 create_bridge; reply = create_reply };
  remembers = refl;
  command = ask_for_an_upload;
  no_drop = refl;
  no_repeat = λ e. let x : ◌≡◌ {A = ℕ} 2 1 = ap (λ (l : List ℕ). byte l 1) e in absurd (omega arith);
  buffer = room 48;
  lent = e14_is_bytes;
  long = omega arith;
  the_rules_differ = λ e. let x : ◌≡◌ {A = ℕ} 3 0 = ap (λ (l : List ℕ). byte l 1) e in absurd (omega arith);
  copy = create_reply;
  its_reply = refl;
  copied = refl;
}

-- one that counts 1, whatever the table
abbrev pub always_counts_1 : Engine
always_counts_1 store m buffer = record { outcome = answered (reply_with_count 1); store = store; buffer = reply_with_count 1 ++ drop 48 buffer }

-- it makes up the count of a Small with one bridge
pub there_is_one_that_makes_up_the_count : MakesUpTheCount always_counts_1
unfolding reply_with_count
there_is_one_that_makes_up_the_count =
    of_one_bridge (λ r e three. let x : ◌≡◌ {A = ℕ} 1 3 = ap (λ (o : Outcome). two (sent o) 8) e ∙ three in absurd (omega arith))

-- there it counts something else than the sections
pub there_is_one_that_counts_something_else : CountsSomethingElse always_counts_1
unfolding computing_worthless held_after_e3
there_is_one_that_counts_something_else = record {
  store = after_e3;
  holds = held_after_e3;
  held = after_e3_it_holds;
  asked = ask_for_an_upload;
  passes = record { its_bytes = refl; no_drop = refl; its_number = refl; its_class = refl; its_instance = refl };
  no_repeat = another_id held_after_e3.state ask_for_an_upload refl;
  buffer = room 48;
  lent = e14_is_bytes;
  long = omega arith;
  wrong = λ e. let x : ◌≡◌ {A = ℕ} 1 3 = ap (λ (o : Outcome). two (sent o) 8) e in absurd (omega arith);
}

-- and it doesn't look
pub there_is_one_that_counts_without_looking : CountsWithoutLooking always_counts_1
there_is_one_that_counts_without_looking r q e y = ap (λ (o : Outcome). two (sent o) 8) (sym e ∙ y)
