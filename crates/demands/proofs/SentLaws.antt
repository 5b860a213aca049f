-- Where values stand that are cut off a message, or put into one, one after another: at the bytes that `Sent` names.
use Prim.Native.Nat.{ℕ, zero, suc, ◌+◌, ◌-◌, ◌≤◌, ◌<◌}
use native.Mathlib.Omega.{arith}
use mathlib.Core.Path.{◌≡◌, refl, sym, ◌∙◌, ap}
use mathlib.Core.Bool.{Bool, true, false, cond}
use mathlib.Core.List.{List, [], ◌∷◌, ◌++◌}
use lib.ListN.{length, take, drop, replicate, length-drop, length-append, get_or-append, get_or-eq_default}
use lib.Seq.{get_or-take, get_or-drop, take-append-le, take_at, drop_at, drop-drop, drop-append-le}
use lib.Dec.{eqb}
use Rattle.rules.specs.Maps.{◌or◌, find, gather, among}
use Rattle.rules.specs.Bytes.{byte, two, fill}
use Rattle.rules.specs.Masks.{attribute_numbers, in_mask, named, total}
use Rattle.rules.specs.State.{content}
use Rattle.rules.specs.Commands.{cut}
use Rattle.rules.specs.Messages.{trailer, checksum, reply_to}
use Rattle.rules.proofs.Laws.{cases, never, or_left, or_right, bool_eq, both, and_true, le-leb, leb_le, eqb_eq, eqb_ne, eqb_true, eqb_false, same?, false_or}
use Rattle.rules.proofs.ByteLaws.{length_fill}
use Rattle.rules.proofs.MapLaws.{Up, up_among, among_those, among_past}
use Rattle.bits.proofs.Masks.{Within, named_within, within_among, numbers_among}
use Rattle.legality.proofs.ReplyBytes.{the_contents_follow_byte_7}
use Rattle.demands.specs.Sent.{mask_names, bytes_before, value_from}

-- ---- masks

-- a mask names what the rules' list of it has
pub named_are : (m n : ℕ) → among n (named m) ≡ mask_names m n
unfolding mask_names named
named_are m n = bool_eq (among n (named m)) (mask_names m n)
    (λ y.
    let w = within_among 1 n (named m) (named_within m) y in
    and_true (and_true (le-leb 1 n w.0) (le-leb n 16 w.1)) (both (sym (among_those (in_mask m) n attribute_numbers) ∙ y)).0)
    (λ y.
    let w = both (both y).0 in
    among_those (in_mask m) n attribute_numbers ∙ and_true (both y).1 (numbers_among n (leb_le 1 n w.0) (leb_le n 16 w.1)))

-- ---- how many bytes stand before an attribute

module _ (size : ℕ → ℕ) where
  -- it depends on the attributes before it alone
  pub same_before : (f g : ℕ → Bool) (n : ℕ) → ((k : ℕ) → k < n → f k ≡ g k) → bytes_before size f n ≡ bytes_before size g n
  unfolding bytes_before
  same_before f g zero h = refl
  same_before f g (suc n) h =
      let before : bytes_before size f n ≡ bytes_before size g n = same_before f g n (λ k lt. h k (omega arith)) in
      let last : cond (f n) (size n) 0 ≡ cond (g n) (size n) 0 = ap (λ (b : Bool). cond b (size n) 0) (h n (omega arith)) in
      omega arith

  none_before : (f : ℕ → Bool) (n : ℕ) → ((k : ℕ) → k < n → f k ≡ false) → bytes_before size f n ≡ 0
  unfolding bytes_before
  none_before f zero h = refl
  none_before f (suc n) h = rw (none_before f n (λ k lt. h k (omega arith)), h n (omega arith)) refl

  -- with one more attribute in front there are its bytes more
  one_before : (x : ℕ) (l : List ℕ) → among x l ≡ false → (n : ℕ) → x < n
      → bytes_before size (λ k. among k (x ∷ l)) n ≡ size x + bytes_before size (λ k. among k l) n
  unfolding bytes_before among
  one_before x l new zero lt = absurd (omega arith)
  one_before x l new (suc n) lt = same? x n
      (λ e.
      let here : eqb n x ≡ true = eqb_true n x (sym e) in
      let before : bytes_before size (λ k. eqb k x or among k l) n ≡ bytes_before size (λ k. among k l) n =
      same_before (λ k. eqb k x or among k l) (λ k. among k l) n (λ k less. rw (eqb_false k x (λ z. absurd (omega arith))) (false_or (among k l))) in
      let size_is : size x ≡ size n = ap size e in
      let there : (eqb n x or among n l) ≡ true = or_left (among n l) here in
      let gone : among n l ≡ false = ap (λ (j : ℕ). among j l) (sym e) ∙ new in
      rw (there, gone) (omega arith))
      (λ e.
      let before = one_before x l new n (omega arith) in
      let same_here : (eqb n x or among n l) ≡ among n l = rw (eqb_false n x (λ z. e (sym z))) (false_or (among n l)) in
      rw same_here (omega arith))

  not_past : (x : ℕ) (l : List ℕ) → Up (suc x) l → (k : ℕ) → k ≤ x → among k l ≡ false
  not_past x l u k h = cases (among k l) (λ y. let z = up_among (suc x) k l u y in absurd (omega arith)) (λ y. y)

  first_of : (x : ℕ) (l : List ℕ) → Up (suc x) l → bytes_before size (λ k. among k (x ∷ l)) x ≡ 0
  unfolding among
  first_of x l u = none_before (λ k. eqb k x or among k l) x (λ k lt. rw (eqb_false k x (λ z. absurd (omega arith)), not_past x l u k (omega arith)) (false_or false))

  -- the attributes of a rising list: each is the first, or behind the first
  each_of_them : (X : ℕ → Type 0) (b x : ℕ) (l : List ℕ) → Up b (x ∷ l) → X x
      → ((n : ℕ) → among n l ≡ true → x < n → eqb n x ≡ false → bytes_before size (λ k. among k (x ∷ l)) n ≡ size x + bytes_before size (λ k. among k l) n → X n)
      → (n : ℕ) → among n (x ∷ l) ≡ true → X n
  each_of_them X b x l u first behind n h = same? n x
      (λ e. rw e first)
      (λ e.
      let later : among n l ≡ true = among_past n x l h e in
      let past : x < n = up_among (suc x) n l u.1 later in
      behind n later past (eqb_false n x e) (one_before x l (not_past x l u.1 x (omega arith)) n past))

  -- a value ends within the bytes of all of them
  ends_within : (b : ℕ) (l : List ℕ) → Up b l → (n : ℕ) → among n l ≡ true → bytes_before size (λ k. among k l) n + size n ≤ total size l
  unfolding total among
  ends_within b [] u n h = never h
  ends_within b (x ∷ l) u n h = each_of_them (λ n. bytes_before size (λ k. among k (x ∷ l)) n + size n ≤ size x + total size l) b x l u
      (let z = first_of x l u.1 in omega arith)
      (λ n later past other e. let z = ends_within (suc x) l u.1 n later in omega arith)
      n h

  -- all of them take the sizes' total: the last attribute is 16
  pub all_before : (b : ℕ) (l : List ℕ) → Within b l → bytes_before size (λ k. among k l) 17 ≡ total size l
  unfolding total
  all_before b [] w = unfold among in none_before (λ k. false) 17 (λ k lt. refl)
  all_before b (x ∷ l) w =
      let new : among x l ≡ false = cases (among x l) (λ y. let z = (within_among (suc x) x l w.2 y).0 in absurd (omega arith)) (λ y. y) in
      one_before x l new 17 (let z = w.1 in omega arith) ∙ ap (λ (y : ℕ). size x + y) (all_before (suc x) l w.2)

  -- ---- values that are cut off

  -- what is cut off for an attribute stands behind the bytes before it
  cut_is : (b : ℕ) (l v : List ℕ) → Up b l → (n : ℕ) → among n l ≡ true
      → content n (cut size l v) ≡ take (size n) (drop (bytes_before size (λ k. among k l) n) v)
  unfolding cut content find among
  cut_is b [] v u n h = never h
  cut_is b (x ∷ l) v u n h = each_of_them
      (λ n. content n (cut size (x ∷ l) v) ≡ take (size n) (drop (bytes_before size (λ k. among k (x ∷ l)) n) v)) b x l u
      (rw (eqb_true x x refl, first_of x l u.1) refl)
      (λ n later past other e. rw (other, e) (cut_is (suc x) l (drop (size x) v) u.1 n later
      ∙ ap (take (size n)) (drop-drop (bytes_before size (λ k. among k l) n) (size x) v)))
      n h

  -- ---- values that are put one after another

  module _ (value : ℕ → List ℕ) where
    put_then_cut : (l : List ℕ) → ((n : ℕ) → among n l ≡ true → length (value n) ≡ size n) → (n : ℕ) → among n l ≡ true
        → content n (cut size l (gather value l)) ≡ value n
    unfolding cut content find among gather
    put_then_cut [] sized n h = never h
    put_then_cut (x ∷ l) sized n h = cases (eqb n x)
        (λ e.
        let here : n ≡ x = eqb_eq n x e in
        rw (e, here) (take_at (value x) (gather value l) (size x) (sized x (or_left (among x l) (eqb_true x x refl)))))
        (λ e. rw (e, drop_at (value x) (gather value l) (size x) (sized x (or_left (among x l) (eqb_true x x refl))))
        (put_then_cut l (λ k y. sized k (or_right (eqb k x) y)) n (among_past n x l h (eqb_ne n x e))))

    -- a value that was put there stands behind the bytes before it
    put_is : (b : ℕ) (l : List ℕ) → Up b l → ((n : ℕ) → among n l ≡ true → length (value n) ≡ size n) → (n : ℕ) → among n l ≡ true
        → take (size n) (drop (bytes_before size (λ k. among k l) n) (gather value l)) ≡ value n
    put_is b l u sized n h = sym (cut_is b l (gather value l) u n h) ∙ put_then_cut l sized n h

-- ---- bytes of a message and of a reply

-- what ends before the cut is what it was
within_taken : (c a s : ℕ) (l : List ℕ) → a + s ≤ c → take s (drop a (take c l)) ≡ take s (drop a l)
within_taken c a zero l h = refl
within_taken zero zero (suc s) l h = absurd (omega arith)
within_taken zero (suc a) (suc s) l h = absurd (omega arith)
within_taken (suc c) zero (suc s) [] h = refl
within_taken (suc c) zero (suc s) (x ∷ l) h = ap (λ (t : List ℕ). x ∷ t) (within_taken c zero s l (omega arith))
within_taken (suc c) (suc a) (suc s) [] h = refl
within_taken (suc c) (suc a) (suc s) (x ∷ l) h = within_taken c a (suc s) l (omega arith)

-- the same of a list with others behind it
within_front : (a s : ℕ) (l r : List ℕ) → a + s ≤ length l → take s (drop a (l ++ r)) ≡ take s (drop a l)
within_front a s l r h = ap (take s) (drop-append-le a l r (omega arith))
    ∙ take-append-le s (drop a l) r (let z = length-drop a l in omega arith)

-- Byte 8 of a reply is c0: what ends within its contents' 32 bytes stands there.
in_a_reply : (m c : List ℕ) (a s : ℕ) → length m ≡ 48 → a + s ≤ length c → a + s ≤ 32 → take s (drop (8 + a) (reply_to m c)) ≡ take s (drop a c)
in_a_reply m c a s long fits in_32 =
    ap (take s) (sym (drop-drop a 8 (reply_to m c)) ∙ ap (drop a) (the_contents_follow_byte_7 m c long))
    ∙ within_front a s (fill 32 c) (trailer ++ checksum) (let z = length_fill 32 c in omega arith)
    ∙ within_taken 32 a s (c ++ replicate 32 0) in_32
    ∙ within_front a s c (replicate 32 0) fits

two_of_two : (l : List ℕ) (a : ℕ) → two (take 2 (drop a l)) 0 ≡ two l a
two_of_two l a =
    let first : byte (take 2 (drop a l)) 0 ≡ byte l a = get_or-take 2 (drop a l) 0 0 (omega arith) ∙ get_or-drop a l 0 0 ∙ ap (byte l) (omega arith) in
    let second : byte (take 2 (drop a l)) 1 ≡ byte l (a + 1) = get_or-take 2 (drop a l) 1 0 (omega arith) ∙ get_or-drop a l 1 0 in
    omega arith

-- a number in the contents of a reply
pub two_in_a_reply : (m c : List ℕ) (k : ℕ) → length m ≡ 48 → k + 2 ≤ length c → k + 2 ≤ 32 → two (reply_to m c) (8 + k) ≡ two c k
two_in_a_reply m c k long fits in_32 =
    sym (two_of_two (reply_to m c) (8 + k)) ∙ ap (λ (x : List ℕ). two x 0) (in_a_reply m c k 2 long fits in_32) ∙ two_of_two c k

-- values of their sizes, one after another, take the sizes' total
pub length_gathered : (size : ℕ → ℕ) (value : ℕ → List ℕ) (l : List ℕ) → ((n : ℕ) → among n l ≡ true → length (value n) ≡ size n) → length (gather value l) ≡ total size l
unfolding gather total among
length_gathered size value [] sized = refl
length_gathered size value (x ∷ l) sized =
    let here = sized x (or_left (among x l) (eqb_true x x refl)) in
    let later = length_gathered size value l (λ n y. sized n (or_right (eqb n x) y)) in
    let z = length-append (value x) (gather value l) in
    omega arith

-- Values that a reply has one after another, behind so many first bytes of its contents: each stands behind the bytes before it.
pub shown_is : (m front : List ℕ) (at : ℕ) (size : ℕ → ℕ) (value : ℕ → List ℕ) (l : List ℕ) → length m ≡ 48 → length front ≡ at → at + total size l ≤ 32 → Up 0 l
    → ((n : ℕ) → among n l ≡ true → length (value n) ≡ size n) → (n : ℕ) → among n l ≡ true
    → take (size n) (drop (8 + at + bytes_before size (λ k. among k l) n) (reply_to m (front ++ gather value l))) ≡ value n
shown_is m front at size value l long its_length in_32 up sized n h =
    let before : ℕ = bytes_before size (λ k. among k l) n in
    let ends = ends_within size 0 l up n h in
    let all_length = length-append front (gather value l) in
    let values_length = length_gathered size value l sized in
    ap (λ (j : ℕ). take (size n) (drop j (reply_to m (front ++ gather value l)))) (let z : 8 + at + before ≡ 8 + (at + before) = omega arith in z)
    ∙ in_a_reply m (front ++ gather value l) (at + before) (size n) long (omega arith) (omega arith)
    ∙ ap (take (size n)) (sym (drop-drop before at (front ++ gather value l)) ∙ ap (drop before) (drop_at front (gather value l) at its_length))
    ∙ put_is size value 0 l up sized n h

-- zeros behind a list are what is read past its end
zeros_past_its_end : (c : List ℕ) (n k : ℕ) → byte (c ++ replicate n 0) k ≡ byte c k
zeros_past_its_end [] zero k = refl
zeros_past_its_end [] (suc n) zero = refl
zeros_past_its_end [] (suc n) (suc k) = zeros_past_its_end [] n k
zeros_past_its_end (x ∷ c) n zero = refl
zeros_past_its_end (x ∷ c) n (suc k) = zeros_past_its_end c n k

-- a byte of a reply's contents, 0 behind those that it was given
byte_in_a_reply : (m c : List ℕ) (k : ℕ) → length m ≡ 48 → k < 32 → byte (reply_to m c) (8 + k) ≡ byte c k
byte_in_a_reply m c k long in_32 =
    sym (get_or-drop 8 (reply_to m c) k 0)
    ∙ ap (λ (l : List ℕ). byte l k) (the_contents_follow_byte_7 m c long)
    ∙ get_or-append (fill 32 c) (trailer ++ checksum) 0 k (let z = length_fill 32 c in omega arith)
    ∙ get_or-take 32 (c ++ replicate 32 0) k 0 in_32
    ∙ zeros_past_its_end c 32 k

-- Behind the last of these values the contents, up to byte 39, are 0.
pub zero_behind_them : (m front : List ℕ) (at : ℕ) (size : ℕ → ℕ) (value : ℕ → List ℕ) (l : List ℕ) → length m ≡ 48 → length front ≡ at → Within 1 l
    → ((n : ℕ) → among n l ≡ true → length (value n) ≡ size n) → (j : ℕ) → 8 + at + bytes_before size (λ k. among k l) 17 ≤ j → j < 40
    → byte (reply_to m (front ++ gather value l)) j ≡ 0
zero_behind_them m front at size value l long its_length within sized j behind in_40 =
    let all_length = length-append front (gather value l) in
    let values_length = length_gathered size value l sized in
    let all = all_before size 1 l within in
    ap (byte (reply_to m (front ++ gather value l))) (let z : j ≡ 8 + (j - 8) = omega arith in z)
    ∙ byte_in_a_reply m (front ++ gather value l) (j - 8) long (omega arith)
    ∙ get_or-eq_default (front ++ gather value l) 0 {n = j - 8} (omega arith)

-- A value that is cut off a message's bytes 8 to 39, from one of them on, stands where `value_from` says.
pub cut_from_a_message : (size : ℕ → ℕ) (there : ℕ → Bool) (b : ℕ) (l m : List ℕ) (from : ℕ) → Up b l → ((n : ℕ) → among n l ≡ there n) → from + total size l ≤ 32
    → (n : ℕ) → among n l ≡ true → content n (cut size l (drop from (take 32 (drop 8 m)))) ≡ value_from (8 + from) size there m n
unfolding value_from
cut_from_a_message size there b l m from u same fits n h =
    let before : ℕ = bytes_before size (λ k. among k l) n in
    let ends : before + size n ≤ total size l = ends_within size b l u n h in
    let same_place : before ≡ bytes_before size there n = same_before size (λ k. among k l) there n (λ k lt. same k) in
    let place : 8 + (from + before) ≡ 8 + from + bytes_before size there n = omega arith in
    cut_is size b l (drop from (take 32 (drop 8 m))) u n h
    ∙ ap (take (size n)) (drop-drop before from (take 32 (drop 8 m)))
    ∙ within_taken 32 (from + before) (size n) (drop 8 m) (omega arith)
    ∙ ap (take (size n)) (drop-drop (from + before) 8 m)
    ∙ ap (λ (x : ℕ). take (size n) (drop x m)) place
