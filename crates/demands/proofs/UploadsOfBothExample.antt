-- What is assumed of an upload that is asked of two products is met by Small and Large in any two stores that are long enough.
use Prim.Native.Nat.{ℕ, ◌≤◌, ◌<◌}
use native.Mathlib.Omega.{arith}
use mathlib.Core.Path.{◌≡◌, refl, sym, ◌∙◌, ap}
use mathlib.Core.Option.{some}
use mathlib.Core.List.{List, [], ◌∷◌, ◌++◌}
use lib.ListN.{length}
use Rattle.demands.specs.Sent.{number_at}
use Rattle.demands.proofs.FrozenOnBytes.{another_id}
use Rattle.rules.specs.Bytes.{bytes}
use Rattle.rules.specs.Messages.{framed}
use Rattle.rules.specs.Run.{Input, message, attribute_report, store_length, step, fresh, after}
use Rattle.rules.specs.Products.{Small, Large, built_products}
use Rattle.rules.proofs.Laws.{◌&◌}
use Rattle.rules.proofs.MapLaws.{some_eq}
use Rattle.rules.proofs.Examples.{call, command, bridge, computing}
use Rattle.products.proofs.Extends.{large_extends_small}
use Rattle.store.specs.Decode.{Held, decode}
use Rattle.store.proofs.Built.{built_products_fit}
use Rattle.legality.proofs.Kept.{AllOfBytes}
use Rattle.extending.specs.Promise.{computing_promise}
use Rattle.demands.specs.Lending.{memory_after}
use Rattle.demands.specs.Repeating.{IsNoRepeat}
use Rattle.demands.proofs.AskedAnew.{NextAskedAnew, there_is_a_next}
use Rattle.demands.proofs.RunsOnBytes.{a_lent_call_is_the_rules}
use Rattle.demands.proofs.DemandThreeExample.{port}
use Rattle.demands.proofs.UploadsOfBoth.{memory_of, holds_after_the_run, UploadAskedOfBoth, SecondSendsAll, what_the_first_s_upload_sends_the_second_s_sends}
use Rattle.demands.proofs.ProductPairs.{small_is_1, large_is_2}

-- a bridge with a port is made
unfoldable pub a_bridge_with_a_port : List Input
a_bridge_with_a_port = bridge ∷ port 1 1 ∷ []

-- then an upload is asked for
unfoldable pub an_upload : List ℕ
an_upload = framed (bytes 2 0x23) 0x4D (bytes 2 2 ++ bytes 2 0) []

-- Its reply is lost, and it is asked for again; while it is fetched the link goes down, and a second port is made.
unfoldable pub meanwhile : List Input
meanwhile = call (message an_upload) ∷ command 0x24 0x4E 2 0 (0 ∷ 0 ∷ []) ∷ call (attribute_report 11 0x0101 6 (1 ∷ [])) ∷ port 2 2 ∷ []

-- Small counts four sections
unfoldable pub small_s_count : List ℕ
small_s_count = framed (bytes 2 0x23) 0x2D (bytes 2 2 ++ bytes 2 0) (0 ∷ 4 ∷ [])

before_of_bytes : AllOfBytes a_bridge_with_a_port
unfolding computing port a_bridge_with_a_port
before_of_bytes = refl & refl & tt

-- what Small's store holds before the upload
held_before : (a : List ℕ) → store_length ≤ length a
    → decode built_products (memory_of built_products 1 a a_bridge_with_a_port) ≡ some (record { product = 1; catalogue = Small; state = after Small (fresh Small) a_bridge_with_a_port })
held_before a long = holds_after_the_run built_products built_products_fit 1 Small small_is_1 a long a_bridge_with_a_port before_of_bytes

-- the last command before it had another id
no_repeat_yet : IsNoRepeat (after Small (fresh Small) a_bridge_with_a_port) an_upload
unfolding computing port a_bridge_with_a_port an_upload
no_repeat_yet = another_id (after Small (fresh Small) a_bridge_with_a_port) an_upload refl

-- what Small's store holds when the upload comes again
held_asked : (a : List ℕ) → store_length ≤ length a
    → decode built_products (memory_after built_products (call (message an_upload)) (memory_of built_products 1 a a_bridge_with_a_port))
    ≡ some (record { product = 1; catalogue = Small; state = (step Small (after Small (fresh Small) a_bridge_with_a_port) (call (message an_upload))).0 })
unfolding computing an_upload
held_asked a long = (a_lent_call_is_the_rules built_products built_products_fit (call (message an_upload)) refl (memory_of built_products 1 a a_bridge_with_a_port) _ (held_before a long)).1

-- Small and Large, powered on in any two stores that are long enough and given these calls, meet all that is assumed.
pub the_assumptions_are_met : (a b : List ℕ) → store_length ≤ length a → store_length ≤ length b
    → UploadAskedOfBoth built_products 1 Small a b a_bridge_with_a_port (call (message an_upload)) meanwhile an_upload small_s_count
unfolding computing computing_promise port a_bridge_with_a_port an_upload meanwhile small_s_count
the_assumptions_are_met a b a_long b_long = record {
  first_is_long = a_long;
  second_is_long = b_long;
  of_bytes = refl & refl & refl & refl & refl & refl & refl & tt;
  promised = refl;
  asks = record {
    its_call = refl;
    passes = record { its_bytes = refl; no_drop = refl; its_number = refl; its_class = refl; its_instance = refl };
    store_lent = omega arith;
    reply_lent = omega arith;
    no_repeat = λ h e k f. no_repeat_yet k (ap (λ (x : Held). x.state.remembered) (some_eq (sym (held_before a a_long) ∙ e)) ∙ f);
  };
  told = (a_lent_call_is_the_rules built_products built_products_fit (call (message an_upload)) refl (memory_of built_products 1 a a_bridge_with_a_port) _ (held_before a a_long)).0;
  nothing_new = (λ told new. absurd (new _ (held_asked a a_long) _ refl refl)) & (λ told new. (refl, refl)) & tt & (λ told new. (refl, refl)) & tt;
}

-- And of Small there is then, for each section that it counted, an Upload Next that is asked anew.
pub a_next_of_small_for_each_section : (a : List ℕ) → store_length ≤ length a → (index : ℕ) → index < number_at small_s_count 8
    → NextAskedAnew built_products (memory_of built_products 1 a (a_bridge_with_a_port ++ call (message an_upload) ∷ meanwhile)) index
unfolding small_s_count framed bytes
a_next_of_small_for_each_section a long index below = there_is_a_next built_products _ _ (holds_after_the_run built_products built_products_fit 1 Small small_is_1 a long
    (a_bridge_with_a_port ++ call (message an_upload) ∷ meanwhile) (the_assumptions_are_met a a long long).of_bytes) index (omega arith)

-- So whatever Small's upload sends, Large's sends.
pub large_sends_what_small_sends : (a b : List ℕ) → store_length ≤ length a → store_length ≤ length b
    → SecondSendsAll built_products 1 2 Small Large a b a_bridge_with_a_port (call (message an_upload)) meanwhile small_s_count
large_sends_what_small_sends a b a_long b_long = what_the_first_s_upload_sends_the_second_s_sends built_products built_products_fit 1 2 Small Large small_is_1 large_is_2
    large_extends_small a b a_bridge_with_a_port (call (message an_upload)) meanwhile an_upload small_s_count (the_assumptions_are_met a b a_long b_long)
