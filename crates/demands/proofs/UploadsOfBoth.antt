-- Demand 3's uploads, on bytes: what the first product's upload sends, the second's sends too. Both are powered on in stores of their own and get
-- the same calls in the same lent sizes, an upload among them; then each attribute in any reply to an Upload Next of the first is in a reply
-- to an Upload Next of the second, with the same bytes.
use Prim.Native.Nat.{ℕ, ◌≤◌, ◌<◌}
use native.Mathlib.Omega.{arith}
use mathlib.Core.Path.{◌≡◌, refl, sym, ◌∙◌, ap}
use mathlib.Core.Bool.{true, false}
use mathlib.Core.Option.{Option, none, some}
use mathlib.Core.Logic.{◌≢◌}
use mathlib.Core.List.{List, [], ◌∷◌, ◌++◌}
use lib.ListN.{length, take, replicate}
use Rattle.rules.specs.Maps.{◌and◌, ◌or◌, given, find, among, first_that_applies, nth}
use Rattle.rules.specs.Bytes.{two, bytes}
use Rattle.rules.specs.Catalogue.{Catalogue, class}
use Rattle.rules.specs.State.{Table, Memory, State, read}
use Rattle.rules.specs.Legal.{automatic_keys}
use Rattle.rules.specs.Messages.{message_number, class_in, instance_in, contents_in, reply_to, Answer, unless_refused}
use Rattle.rules.specs.Walks.{Section, sections, if_ont_data, frozen, upload}
use Rattle.rules.specs.Reports.{Outcome, dropped, quiet, answered}
use Rattle.rules.specs.WellFormed.{WellFormed}
use Rattle.rules.specs.Run.{perform, first_results, answer, remember, answer_anew, Call, message, attribute_report, alarm_report}
use Rattle.rules.specs.Run.{Input, store_length, step, fresh, after}
use Rattle.rules.specs.Products.{Products}
use Rattle.rules.specs.Extends.{Extends}
use Rattle.rules.proofs.Laws.{true_false}
use Rattle.rules.proofs.MapLaws.{none_some, some_eq}
use Rattle.rules.proofs.ByteLaws.{two_of_bytes, length_bytes}
use Rattle.store.specs.Decode.{Held, decode}
use Rattle.store.specs.Entries.{power_on}
use Rattle.store.specs.Fitting.{AllFit}
use Rattle.legality.proofs.Kept.{AllOfBytes, the_fresh_state_is_legal, every_run_keeps_the_state_legal}
use Rattle.legality.proofs.LegalStates.{LegalState, open_state}
use Rattle.legality.proofs.Outcomes.{sent}
use Rattle.legality.proofs.Tables.{LegalTable, close_table, frozen_legal}
use Rattle.extending.specs.Promise.{within_the_promise, SameOutcome, SameUpload}
use Rattle.extending.specs.Matched.{BothMatch, MatchedMemory, MatchedState}
use Rattle.extending.proofs.Uploads.{frozen_match, same_upload}
use Rattle.extending.proofs.MatchedRuns.{stepped, an_extension_s_state_matches}
use Rattle.extending.proofs.Beginnings.{what_begins_a_run_within_the_promise_is_within_it, the_rest_of_a_run_within_the_promise_is_within_it, bytes_of_both, after_both}
use Rattle.demands.specs.Lending.{lend, memory_after, memory_after_all}
use Rattle.demands.specs.Between.{EachStep, EachLent, is_dropped, asks_for_an_upload, LeavesUploads, LeavesWalksOn}
use Rattle.demands.specs.Sent.{number_at, mask_names, shown_in_section}
use Rattle.demands.proofs.FrozenInBetween.{whatever_comes_in_between_the_upload_stays}
use Rattle.demands.proofs.Between.{each_lent_call_is_a_step, leaves_walks_on_its_state}
use Rattle.demands.proofs.AnsweredOnBytes.{its_length}
use Rattle.demands.proofs.AskedAnew.{AskedAnew, its_reply_is, its_step_is, anew_on_lent_bytes, NextAskedAnew, there_is_a_next}
use Rattle.demands.proofs.RunsOnBytes.{a_lent_call_is_the_rules, a_run_on_bytes_leaves_the_rules_state, a_powered_on_store_holds_the_fresh_state}
use Rattle.demands.proofs.SectionLaws.{what_one_shows_stands}
use Rattle.demands.proofs.SentLaws.{two_in_a_reply}
use Rattle.demands.proofs.SectionsOnBytes.{HasTheSection, the_reply_to_an_upload_next_has_its_section}
use Rattle.demands.proofs.Fetched.{InOne, in_one}

-- ---- the same calls of both

-- the memory of a product that is powered on in a lent store, after some calls
abbrev pub memory_of : Products → ℕ → List ℕ → List Input → List ℕ
memory_of products p lent l = memory_after_all products (power_on products p lent).1 l

-- Two stores are long enough, and both products get the same calls in the same lent sizes, within the promise: some, then an upload u, which the
-- first answers anew, with ru, and then some that ask for no new upload and reset nothing: reports, dropped messages, repeats, and any other messages but
-- uploads and resets.
pub record UploadAskedOfBoth (products : Products) (p : ℕ) (first : Catalogue) (a b : List ℕ) (before : List Input) (asked : Input) (between : List Input)
    (u ru : List ℕ) : Type 0 where
  pub first_is_long : store_length ≤ length a
  pub second_is_long : store_length ≤ length b
  pub of_bytes : AllOfBytes (before ++ asked ∷ between)
  pub promised : within_the_promise first (fresh first) (before ++ asked ∷ between) ≡ true
  pub asks : AskedAnew products 13 (memory_of products p a before) asked u
  pub told : (lend products asked (memory_of products p a before)).outcome ≡ answered ru
  pub nothing_new : EachLent (LeavesWalksOn asks_for_an_upload products) products (memory_after products asked (memory_of products p a before)) between

-- two replies to Upload Nexts, of the first product and of the second, that show attribute n of the same instance with the same bytes
pub record ShowTheSame (first second : Catalogue) (n : ℕ) (r r' : List ℕ) : Type 0 where
  pub same_class : number_at r' 8 ≡ number_at r 8
  pub same_instance : number_at r' 10 ≡ number_at r 10
  pub named_too : mask_names (number_at r' 12) n ≡ true
  pub same_bytes : shown_in_section (class second (number_at r' 8)) r' n ≡ shown_in_section (class first (number_at r 8)) r n

-- There is an index below the count and an Upload Next with that index which is asked anew of the memory; and every such Upload Next is answered,
-- with a reply that shows attribute n as r does.
pub record SentToo (products : Products) (first second : Catalogue) (memory : List ℕ) (count n : ℕ) (r : List ℕ) : Type 0 where
  pub index : ℕ
  pub below_the_count : index < count
  pub there_is_one : NextAskedAnew products memory index
  pub shown : (next : Input) (m : List ℕ) → AskedAnew products 14 memory next m → number_at m 8 ≡ index
      → (r' : List ℕ) × ((lend products next memory).outcome ≡ answered r') × ShowTheSame first second n r r'

-- The second answers the upload too. And for each attribute that is named in any reply r to an Upload Next of the first, with an index below the
-- first's count, there is an Upload Next of the second below the second's count that shows it with the same bytes.
pub record SecondSendsAll (products : Products) (p q : ℕ) (first second : Catalogue) (a b : List ℕ) (before : List Input) (asked : Input) (between : List Input)
    (ru : List ℕ) : Type 0 where
  pub reply : List ℕ
  pub told : (lend products asked (memory_of products q b before)).outcome ≡ answered reply
  pub each_attribute : (next : Input) (m r : List ℕ) → AskedAnew products 14 (memory_of products p a (before ++ asked ∷ between)) next m
      → (lend products next (memory_of products p a (before ++ asked ∷ between))).outcome ≡ answered r → number_at m 8 < number_at ru 8
      → (n : ℕ) → mask_names (number_at r 12) n ≡ true
      → SentToo products first second (memory_of products q b (before ++ asked ∷ between)) (number_at reply 8) n r

-- ---- what is known of one of them

-- the memory then holds the state that the rules leave
pub holds_after_the_run : (products : Products) → AllFit products → (product : ℕ) (cat : Catalogue) → find product products ≡ some cat → (lent : List ℕ) → store_length ≤ length lent
    → (l : List Input) → AllOfBytes l
    → decode products (memory_of products product lent l) ≡ some (record { product = product; catalogue = cat; state = after cat (fresh cat) l })
holds_after_the_run products fit product cat is lent long l b =
    a_run_on_bytes_leaves_the_rules_state products fit l b (power_on products product lent).1 _ (a_powered_on_store_holds_the_fresh_state products fit product cat lent is long)

-- the reply ru has the number of sections of table t, which the state that the memory holds later has frozen
record Uploading (products : Products) (product : ℕ) (cat : Catalogue) (memory : List ℕ) (t : Table) (ru : List ℕ) : Type 0 where
  count_is : number_at ru 8 ≡ length (sections cat t)
  is_short : length (sections cat t) ≤ 65535
  later : State
  holds_it : decode products memory ≡ some (record { product = product; catalogue = cat; state = later })
  has_frozen : later.upload ≡ some t

-- a count in two bytes is the number
counted : (cat : Catalogue) (t : Table) → length (sections cat t) ≤ 65535 → (u ru : List ℕ) → length u ≡ 48
    → ru ≡ reply_to u (bytes 2 (length (sections cat t))) → number_at ru 8 ≡ length (sections cat t)
counted cat t short u ru long is =
    let z = length_bytes 2 (length (sections cat t)) in
    ap (λ (x : List ℕ). two x 8) is
    ∙ two_in_a_reply u (bytes 2 (length (sections cat t))) 0 long (omega arith) (omega arith)
    ∙ two_of_bytes (length (sections cat t)) short

-- the section of an index that is fetched anew
module _ (products : Products) (fit : AllFit products) (product : ℕ) (cat : Catalogue) (memory : List ℕ) (t : Table) (ru : List ℕ)
    (up : Uploading products product cat memory t ru) where
  fetched : (next : Input) (m r : List ℕ) → AskedAnew products 14 memory next m → (lend products next memory).outcome ≡ answered r → number_at m 8 < number_at ru 8
      → (s : Section) × (nth (sections cat t) (number_at m 8) ≡ some s) × HasTheSection cat t s r
  fetched next m r asks told below =
      let c = up.count_is in
      let h : Held = record { product = product; catalogue = cat; state = up.later } in
      the_reply_to_an_upload_next_has_its_section products fit (take next.store_room memory) m (replicate next.reply_room 0) r h t (record {
        anew = anew_on_lent_bytes products fit 14 memory next m h up.holds_it asks r told;
        to_class_2 = asks.passes.its_class;
        to_instance_0 = asks.passes.its_instance;
        frozen_is = up.has_frozen;
        below = omega arith;
      })

-- ---- sections of both

module _ (first second : Catalogue) (t t' : Table) (same : SameUpload first second t t') where
  -- the section of the second that shows what a section s of the first shows
  in_the_second : (k : ℕ) (s : Section) → nth (sections first t) k ≡ some s → (n : ℕ) → among n s.shows ≡ true → InOne (sections second t') s.of_class s.of_instance n
  in_the_second k s e n h = in_one (sections second t') s.of_class s.of_instance n
      (same.stands_too s.of_class s.of_instance n (what_one_shows_stands (sections first t) k s e n h))

  -- the replies that have these two sections
  show_the_same : (k : ℕ) (s : Section) → nth (sections first t) k ≡ some s → (r : List ℕ) → HasTheSection first t s r
      → (n : ℕ) → mask_names (number_at r 12) n ≡ true → (one : InOne (sections second t') s.of_class s.of_instance n)
      → (k' : ℕ) → k' ≡ one.index → (s' : Section) → nth (sections second t') k' ≡ some s' → (r' : List ℕ) → HasTheSection second t' s' r'
      → ShowTheSame first second n r r'
  show_the_same k s e r h n named one k' at s' e' r' h' =
      let it : s' ≡ one.its_section = some_eq (sym e' ∙ ap (nth (sections second t')) at ∙ one.found) in
      let class_is : number_at r' 8 ≡ s.of_class = h'.its_class ∙ ap (λ (y : Section). y.of_class) it ∙ one.its_class in
      let instance_is : number_at r' 10 ≡ s.of_instance = h'.its_instance ∙ ap (λ (y : Section). y.of_instance) it ∙ one.its_instance in
      let named_too : mask_names (number_at r' 12) n ≡ true = h'.its_mask n ∙ ap (λ (y : Section). among n y.shows) it ∙ one.shows_it in
      record {
        same_class = class_is ∙ sym h.its_class;
        same_instance = instance_is ∙ sym h.its_instance;
        named_too = named_too;
        same_bytes = h'.its_values n named_too
            ∙ (λ j. read second t' (class_is j) (instance_is j) n)
            ∙ same.same_content s.of_class s.of_instance n (what_one_shows_stands (sections first t) k s e n (sym (h.its_mask n) ∙ named))
            ∙ (λ j. read first t (sym h.its_class j) (sym h.its_instance j) n)
            ∙ sym (h.its_values n named);
      }

  -- what a reply of the first has, the second sends
  sent_too : (products : Products) → AllFit products → (q : ℕ) (memory ru : List ℕ) → Uploading products q second memory t' ru
      → (k : ℕ) (s : Section) → nth (sections first t) k ≡ some s → (r : List ℕ) → HasTheSection first t s r → (n : ℕ) → mask_names (number_at r 12) n ≡ true
      → SentToo products first second memory (number_at ru 8) n r
  sent_too products fit q memory ru up k s e r h n named =
      let one : InOne (sections second t') s.of_class s.of_instance n = in_the_second k s e n (sym (h.its_mask n) ∙ named) in
      let count = up.count_is in
      let short = up.is_short in
      let in_range = one.in_range in
      let below_too : one.index < number_at ru 8 = omega arith in
      record {
        index = one.index;
        below_the_count = below_too;
        there_is_one = there_is_a_next products memory _ up.holds_it one.index (omega arith);
        shown = λ next m asks at.
            let reply = its_reply_is products fit 14 memory next m _ up.holds_it asks in
            let f = fetched products fit q second memory t' ru up next m reply.0 asks reply.1 (omega arith) in
            (reply.0, reply.1, show_the_same k s e r h n named one (number_at m 8) at f.0 f.1 reply.0 f.2);
      }

-- ---- what both remember, and what leaves the uploads of both alone

-- the command that is remembered, if there is one
abbrev command_of : Option Memory → Option (List ℕ)
command_of o = given o none (λ k. some k.command)

-- what is no repeat where this is remembered, is none where the same command is
none_too : (m : List ℕ) (o o' : Option Memory) → command_of o' ≡ command_of o → ((k : Memory) → o ≡ some k → take 40 m ≢ k.command)
    → (k : Memory) → o' ≡ some k → take 40 m ≢ k.command
none_too m none o' same new k e y = none_some (sym same ∙ ap command_of e)
none_too m (some a) o' same new k e y = new a refl (y ∙ some_eq (sym (ap command_of e) ∙ same))

-- both remember the same command
same_command_in_both : (first second : Catalogue) (o o' : Option Memory) → BothMatch (MatchedMemory first second) o o' → command_of o' ≡ command_of o
same_command_in_both first second none none x = refl
same_command_in_both first second none (some b) x = absurd x
same_command_in_both first second (some a) none x = absurd x
same_command_in_both first second (some a) (some b) x = ap some x.same_command

-- what the second drops, the first drops
dropped_too : (c : Call) (o o' : Outcome) → SameOutcome c o o' → is_dropped o' ≡ false → is_dropped o ≡ false
dropped_too c (dropped n) o' same not_so = true_false (ap is_dropped ((same.same_drops n).0 refl)) not_so
dropped_too c quiet o' same not_so = refl
dropped_too c (answered r) o' same not_so = refl

module _ (first second : Catalogue) (wf : WellFormed first) (wf' : WellFormed second) (ext : Extends first second) where
  -- a call that leaves the first's uploads alone leaves the second's alone
  leaves_too : (s z : State) → MatchedState first second s z → (c : Call) (o o' : Outcome) → SameOutcome c o o' → LeavesUploads s c o → LeavesUploads z c o'
  leaves_too s z mt (message m) o o' same leaves = λ taken new.
      leaves (dropped_too (message m) o o' same taken)
      (none_too m z.remembered s.remembered (sym (same_command_in_both first second s.remembered z.remembered mt.memories)) new)
  leaves_too s z mt (attribute_report c i n v) o o' same leaves = tt
  leaves_too s z mt (alarm_report c i n on) o o' same leaves = tt

  -- and so does each call of a run within the promise
  each_leaves_too : (s z : State) → LegalState first wf s → LegalState second wf' z → MatchedState first second s z → (l : List Input) → AllOfBytes l
      → within_the_promise first s l ≡ true → EachStep LeavesUploads first s l → EachStep LeavesUploads second z l
  each_leaves_too s z h h' mt [] b w each = tt
  each_leaves_too s z h h' mt (p ∷ l) b w each =
      let x = stepped first second wf wf' ext s z h h' mt p l b.0 w in (
        leaves_too s z mt p.call _ _ x.0.result.outcomes each.0,
        each_leaves_too (step first s p).0 (step second z p).0 x.0.first_legal x.0.second_legal x.0.result.states l b.1 x.1 each.1,
      )

-- ---- demand 3's uploads

module _ (products : Products) (fit : AllFit products) (p q : ℕ) (first second : Catalogue) (p_is : find p products ≡ some first) (q_is : find q products ≡ some second)
    (ext : Extends first second) where
  -- Any products that fit the store, of which the second extends the first. An upload is asked of both, within the promise. Each attribute in any reply
  -- to an Upload Next of the first, below the first's count, is in the reply to an Upload Next of the second, below the second's count, with the same
  -- bytes, each at the offset that the message format gives it.
  pub what_the_first_s_upload_sends_the_second_s_sends : (a b : List ℕ) (before : List Input) (asked : Input) (between : List Input) (u ru : List ℕ)
      → UploadAskedOfBoth products p first a b before asked between u ru → SecondSendsAll products p q first second a b before asked between ru
  unfolding answer unless_refused first_results perform first_that_applies among ◌or◌ ◌and◌ upload if_ont_data remember answer_anew after
  what_the_first_s_upload_sends_the_second_s_sends a b before asked between u ru x = record {
    reply = second_reply.0;
    told = second_reply.1;
    each_attribute = λ next m r asks told below n named.
        let f = fetched products fit p first (memory_of products p a all) t ru up_first next m r asks told below in
        sent_too first second t t' same products fit q (memory_of products q b all) second_reply.0 up_second (number_at m 8) f.0 f.1 r f.2 n named;
  }
    where
      all : List Input
      all = before ++ asked ∷ between

      bytes_of : AllOfBytes before × AllOfBytes (asked ∷ between)
      bytes_of = bytes_of_both before (asked ∷ between) x.of_bytes

      legal_then : (product : ℕ) (cat : Catalogue) (is : find product products ≡ some cat) → LegalState cat (fit.well_formed product cat is) (after cat (fresh cat) before)
      legal_then product cat is =
          let wf : WellFormed cat = fit.well_formed product cat is in
          open_state cat wf (after cat (fresh cat) before) (every_run_keeps_the_state_legal cat wf (fresh cat) before (the_fresh_state_is_legal cat wf) bytes_of.0)

      legal : (product : ℕ) (cat : Catalogue) (is : find product products ≡ some cat)
          → LegalTable cat (fit.well_formed product cat is) (automatic_keys cat) (frozen (after cat (fresh cat) before).table)
      legal product cat is =
          let wf : WellFormed cat = fit.well_formed product cat is in
          frozen_legal cat wf (after cat (fresh cat) before).table (legal_then product cat is).its_table

      uploading : (product : ℕ) (cat : Catalogue) → find product products ≡ some cat → (lent : List ℕ) → store_length ≤ length lent → (r : List ℕ)
          → AskedAnew products 13 (memory_of products product lent before) asked u → (lend products asked (memory_of products product lent before)).outcome ≡ answered r
          → EachStep LeavesUploads cat (step cat (after cat (fresh cat) before) asked).0 between
          → Uploading products product cat (memory_of products product lent all) (frozen (after cat (fresh cat) before).table) r
      uploading product cat is lent long r asks told leaves =
          let wf : WellFormed cat = fit.well_formed product cat is in
          let memory : List ℕ = memory_of products product lent before in
          let s : State = after cat (fresh cat) before in
          let h : Held = record { product = product; catalogue = cat; state = s } in
          let held : decode products memory ≡ some h = holds_after_the_run products fit product cat is lent long before bytes_of.0 in
          let done : answer cat s (message_number u) (class_in u) (instance_in u) (contents_in u) ≡ upload cat s 2 0 =
          λ j. answer cat s (asks.passes.its_number j) (asks.passes.its_class j) (asks.passes.its_instance j) (contents_in u) in
          let short : length (sections cat (frozen s.table)) ≤ 65535 =
          wf.uploads_are_short (frozen s.table) (close_table cat wf (automatic_keys cat) (frozen s.table) (legal product cat is)) in
          let stepped : step cat s asked ≡ answer_anew cat s u = its_step_is products fit 13 memory asked u h held asks in
          let reply_is : r ≡ reply_to u (bytes 2 (length (sections cat (frozen s.table)))) =
          ap sent (sym told ∙ (a_lent_call_is_the_rules products fit asked bytes_of.1.0 memory h held).0 ∙ ap (λ (y : State × Outcome). y.1) stepped
          ∙ ap (λ (y : Answer). answered (reply_to u y.1)) done) in
          record {
            count_is = counted cat (frozen s.table) short u r
                (its_length products 13 (take asked.store_room memory) u (replicate asked.reply_room 0) r h (anew_on_lent_bytes products fit 13 memory asked u h held asks r told))
                reply_is;
            is_short = short;
            later = after cat (fresh cat) all;
            holds_it = holds_after_the_run products fit product cat is lent long all x.of_bytes;
            has_frozen = ap (λ (y : State). y.upload) (after_both cat (fresh cat) before (asked ∷ between))
                ∙ whatever_comes_in_between_the_upload_stays cat (step cat s asked).0 between leaves
                ∙ ap (λ (y : State × Outcome). y.0.upload) stepped
                ∙ ap (λ (y : Answer). y.0.upload) done;
          }

      matched : MatchedState first second (after first (fresh first) before) (after second (fresh second) before)
      matched = an_extension_s_state_matches first second (fit.well_formed p first p_is) (fit.well_formed q second q_is) ext before bytes_of.0
          (what_begins_a_run_within_the_promise_is_within_it first (fresh first) before (asked ∷ between) x.promised)

      held_first : decode products (memory_of products p a before) ≡ some (record { product = p; catalogue = first; state = after first (fresh first) before })
      held_first = holds_after_the_run products fit p first p_is a x.first_is_long before bytes_of.0

      held_second : decode products (memory_of products q b before) ≡ some (record { product = q; catalogue = second; state = after second (fresh second) before })
      held_second = holds_after_the_run products fit q second q_is b x.second_is_long before bytes_of.0

      asks_second : AskedAnew products 13 (memory_of products q b before) asked u
      asks_second = record {
        its_call = x.asks.its_call;
        passes = x.asks.passes;
        store_lent = x.asks.store_lent;
        reply_lent = x.asks.reply_lent;
        no_repeat = λ h e k f. none_too u (after first (fresh first) before).remembered (after second (fresh second) before).remembered
            (same_command_in_both first second (after first (fresh first) before).remembered (after second (fresh second) before).remembered matched.memories)
            (x.asks.no_repeat _ held_first) k (ap (λ (y : Held). y.state.remembered) (some_eq (sym held_second ∙ e)) ∙ f);
      }

      second_reply : (r : List ℕ) × ((lend products asked (memory_of products q b before)).outcome ≡ answered r)
      second_reply = its_reply_is products fit 13 (memory_of products q b before) asked u _ held_second asks_second

      t : Table
      t = frozen (after first (fresh first) before).table

      t' : Table
      t' = frozen (after second (fresh second) before).table

      same : SameUpload first second t t'
      same = same_upload first second (fit.well_formed p first p_is) (fit.well_formed q second q_is) ext t t'
          (frozen_match first second (fit.well_formed p first p_is) (fit.well_formed q second q_is) ext (after first (fresh first) before).table
          (after second (fresh second) before).table matched.tables)
          (legal q second q_is)

      leaves_first : EachStep LeavesUploads first (step first (after first (fresh first) before) asked).0 between
      leaves_first = each_lent_call_is_a_step products fit (LeavesWalksOn asks_for_an_upload products) LeavesUploads (leaves_walks_on_its_state asks_for_an_upload products) between bytes_of.1.1
          (memory_after products asked (memory_of products p a before)) _ (a_lent_call_is_the_rules products fit asked bytes_of.1.0 (memory_of products p a before) _ held_first).1
          x.nothing_new

      leaves_second : EachStep LeavesUploads second (step second (after second (fresh second) before) asked).0 between
      leaves_second =
          let y = stepped first second (fit.well_formed p first p_is) (fit.well_formed q second q_is) ext (after first (fresh first) before) (after second (fresh second) before)
          (legal_then p first p_is) (legal_then q second q_is) matched asked between bytes_of.1.0
          (the_rest_of_a_run_within_the_promise_is_within_it first (fresh first) before (asked ∷ between) x.promised) in
          each_leaves_too first second (fit.well_formed p first p_is) (fit.well_formed q second q_is) ext _ _ y.0.first_legal y.0.second_legal y.0.result.states between
          bytes_of.1.1 y.1 leaves_first

      up_first : Uploading products p first (memory_of products p a all) t ru
      up_first = uploading p first p_is a x.first_is_long ru x.asks x.told leaves_first

      up_second : Uploading products q second (memory_of products q b all) t' second_reply.0
      up_second = uploading q second q_is b x.second_is_long second_reply.0 asks_second second_reply.1 leaves_second
