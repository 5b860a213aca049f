-- The contract that no worthless engine meets (`demands/WorthlessOnBytes`) is that of `engine::handle` itself, as the checker reads it out of engine's src/lib.rt.
use Prim.Native.Nat.{ℕ}
use mathlib.Core.Path.{◌≡◌, refl, sym, ◌∙◌, ap}
use mathlib.Core.List.{List, []}
use lib.ListN.{take, drop}
use lib.Seq.{take_at}
use contract.Lifetimes.{Lfts}
use denote.Triple.Entry.{Args, Res}
use denote.Triple.Clauses.{Lasts, at_exit}
use mathlib.Core.Bool.{true}
use lib.Dec.{eqb}
use Rattle.rules.specs.Maps.{◌and◌, all, among}
use Rattle.rules.proofs.Laws.{all_among, eqb_eq}
use Rattle.rules.specs.Reports as rules
use Rattle.rules.specs.Run.{message, reply_length}
use Rattle.rules.specs.Products.{built_products}
use Rattle.store.specs.Entries.{Left, enter}
use Rattle.store.proofs.Built.{built_products_fit}
use Rattle.outcome.specs.declared.Outcome.{Outcome}
use Rattle.outcome.specs.declared.Outcome.TheVariants.{Answered, Quiet}
use Rattle.outcome.specs.Outcomes.{left_by}
use Rattle.std.specs.Prelude.{Result, Ok, Err}
use Rattle.message_frame.specs.Drops.{drop_number}
use Rattle.message_frame.specs.declared.drops.DropReason.{DropReason}
use Rattle.engine.proofs.OneOutcome.{reason_of}
use Rattle.demands.proofs.DemandOne.{an_answer_fills_48_bytes_only, numbers_for, every_drop_is_from_the_list}
use Rattle.demands.proofs.Worthless.{Engine}
use Rattle.demands.proofs.WorthlessOnBytes.{AreBytes, MeetsTheContract}
use Rattle.engine.specs.contracts.handle as handle
use Rattle.engine.proofs.handle.Reads as handle_reads

-- what the contract of `handle` allows to be left of a call with the arguments a: a result and last values of store and reply buffer
pub record IsAllowed (κs : Lfts (handle.signature).lifetimes) (a : Args handle.signature κs) (left : Left) : Type 0 where
  pub result : Res handle.signature κs
  pub last : Lasts handle.ended κs a
  pub learnt : handle_reads.Learnt κs a result (at_exit handle.ended κs a last)
  pub is_left : left ≡ left_by result last.0 last.1.1.0

-- an engine that leaves of every call on bytes what the contract of `handle` allows
abbrev pub AbidesByHandle : Engine → Type 0
AbidesByHandle engine = (κs : Lfts (handle.signature).lifetimes) (a : Args handle.signature κs) → AreBytes a.0.now a.1.0.now a.1.1.0.now
    → IsAllowed κs a (engine a.0.now a.1.0.now a.1.1.0.now)

-- such an engine meets the contract of which `demands/WorthlessOnBytes` speaks, so it is none of the worthless ones
pub what_abides_by_handle_meets_the_contract : (engine : Engine) → AbidesByHandle engine → MeetsTheContract engine
what_abides_by_handle_meets_the_contract engine abides store m buffer lent =
    let call = abides ([], ([], ([], tt)))
    (record { ref_ptr = (0, 0); ghost_name = 0; now = store }, (record { ref_ptr = (0, 0); now = m }, (record { ref_ptr = (0, 0); ghost_name = 0; now = buffer }, tt))) lent in
    call.is_left ∙ call.learnt

-- a message is dropped with a number that a reason has
numbered : (m : List ℕ) (n : ℕ) → among n (numbers_for (message m)) ≡ true → drop_number (reason_of n) ≡ n
numbered m n listed = eqb_eq (drop_number (reason_of n)) n (all_among (λ k. eqb (drop_number (reason_of k)) k) (numbers_for (message m)) computed n listed)
  where
    computed : all (λ k. eqb (drop_number (reason_of k)) k) (numbers_for (message m)) ≡ true
    computed = unfold all ◌and◌ in refl

-- the code's answer that stands for an outcome, of which the reply is in the buffer
answer_for : (x : Left) → ((n : ℕ) → x.outcome ≡ rules.dropped n → drop_number (reason_of n) ≡ n)
    → ((r : List ℕ) → x.outcome ≡ rules.answered r → take reply_length x.buffer ≡ r) → (o : Result Outcome DropReason) × (left_by o x.store x.buffer ≡ x)
answer_for x told filled = go x.outcome refl
  where
    go : (o : rules.Outcome) → x.outcome ≡ o → (c : Result Outcome DropReason) × (left_by c x.store x.buffer ≡ x)
    go (rules.dropped n) e = (Err (reason_of n), λ i. record { outcome = (ap rules.dropped (told n e) ∙ sym e) i; store = x.store; buffer = x.buffer })
    go rules.quiet e = (Ok Quiet, λ i. record { outcome = sym e i; store = x.store; buffer = x.buffer })
    go (rules.answered r) e = (Ok Answered, λ i. record { outcome = (ap rules.answered (filled r e) ∙ sym e) i; store = x.store; buffer = x.buffer })

-- and the other way round: the contract of `handle` allows each call of an engine that meets that contract
pub what_meets_the_contract_abides_by_handle : (engine : Engine) → MeetsTheContract engine → AbidesByHandle engine
what_meets_the_contract_abides_by_handle engine meets κs a lent =
    let x : Left = enter built_products (message a.1.0.now) a.0.now a.1.1.0.now in
    let answer = answer_for x (λ n e.
    numbered a.1.0.now n (every_drop_is_from_the_list built_products (message a.1.0.now) a.0.now a.1.1.0.now n e)) (λ r e.
    let filled = an_answer_fills_48_bytes_only built_products built_products_fit (message a.1.0.now) lent.its_message a.0.now a.1.1.0.now r e in
    ap (take reply_length) filled.1 ∙ take_at r (drop 48 a.1.1.0.now) 48 filled.0) in
    record {
      result = answer.0;
      last = (x.store, (tt, (x.buffer, tt)));
      learnt = answer.1;
      is_left = meets a.0.now a.1.0.now a.1.1.0.now lent ∙ sym answer.1;
    }
