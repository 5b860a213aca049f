-- What is so of each call of a run: that the run keeps what each of its calls keeps; and what is so on the memory is so on the state that it holds.
use Prim.Native.Nat.{ℕ}
use mathlib.Core.Path.{◌≡◌, refl, sym, ◌∙◌, ap, subst}
use mathlib.Core.Bool.{Bool}
use mathlib.Core.Option.{Option, some}
use mathlib.Core.List.{List, [], ◌∷◌}
use Rattle.rules.specs.Catalogue.{Catalogue}
use Rattle.rules.specs.State.{State}
use Rattle.rules.specs.Reports.{Outcome}
use Rattle.rules.specs.Run.{Call, message, attribute_report, alarm_report, Input, taken, room_drops, step, after}
use Rattle.rules.specs.Products.{Products}
use Rattle.rules.proofs.MapLaws.{some_eq}
use Rattle.store.specs.Decode.{Held, decode}
use Rattle.store.specs.Fitting.{AllFit}
use Rattle.legality.proofs.Refusals.{unless_dropped_is}
use Rattle.legality.proofs.Kept.{AllOfBytes}
use Rattle.demands.specs.Lending.{memory_after}
use Rattle.demands.specs.Between.{EachStep, EachLent, LeavesWalks, LeavesWalksOn}
use Rattle.demands.proofs.RunsOnBytes.{a_lent_call_is_the_rules}

-- a part of the state that each call keeps which meets a condition, a run of such calls keeps, in lent sizes of any length
pub kept_by_a_run : {A : Type 0} (cat : Catalogue) (part : State → Option A) (condition : State → Call → Outcome → Type 0)
    → ((s : State) (c : Call) → condition s c (taken cat s c).1 → part (taken cat s c).0 ≡ part s)
    → (s : State) (l : List Input) → EachStep condition cat s l → part (after cat s l) ≡ part s
unfolding after step
kept_by_a_run cat part condition keeps s [] each = refl
kept_by_a_run cat part condition keeps s (p ∷ l) each = kept_by_a_run cat part condition keeps (step cat s p).0 l each.1
    ∙ unless_dropped_is (λ r. condition s p.call r.1 → part r.0 ≡ part s) s (room_drops p) (taken cat s p.call) (λ n e y. refl)
    (λ clear. keeps s p.call) each.0

-- What is so of each call of a run on a memory is so of each call of the rules' run, on the states that the memory holds, where it is so of a state if
-- it is so of the memory that holds it.
pub each_lent_call_is_a_step : (products : Products) → AllFit products → (of_memory : List ℕ → Call → Outcome → Type 0) (of_state : State → Call → Outcome → Type 0)
    → ((memory : List ℕ) (h : Held) (c : Call) (o : Outcome) → decode products memory ≡ some h → of_memory memory c o → of_state h.state c o)
    → (l : List Input) → AllOfBytes l → (memory : List ℕ) (h : Held) → decode products memory ≡ some h → EachLent of_memory products memory l → EachStep of_state h.catalogue h.state l
each_lent_call_is_a_step products fit of_memory of_state so [] b memory h e each = tt
each_lent_call_is_a_step products fit of_memory of_state so (p ∷ l) b memory h e each =
    let one = a_lent_call_is_the_rules products fit p b.0 memory h e in (
      subst (of_state h.state p.call) one.0 (so memory h p.call _ e each.0),
      each_lent_call_is_a_step products fit of_memory of_state so l b.1 (memory_after products p memory) _ one.1 each.1,
    )

-- what leaves such walks alone on a memory does so on the state that the memory holds
pub leaves_walks_on_its_state : (asks : List ℕ → Bool) (products : Products) (memory : List ℕ) (h : Held) (c : Call) (o : Outcome) → decode products memory ≡ some h
    → LeavesWalksOn asks products memory c o → LeavesWalks asks h.state c o
leaves_walks_on_its_state asks products memory h (message m) o e leaves =
    λ told new. leaves told (λ g f k x. new k (ap (λ (y : Held). y.state.remembered) (some_eq (sym e ∙ f)) ∙ x))
leaves_walks_on_its_state asks products memory h (attribute_report c i n v) o e leaves = tt
leaves_walks_on_its_state asks products memory h (alarm_report c i n on) o e leaves = tt
