-- The rows of a bitmap, one behind the other.
use Rattle.std.proofs.Common.{◌≡◌, IsTrue, ◌↔◌, ℕ, zero, suc, ◌+◌, ◌-◌, ◌*◌, ◌/◌, ◌%◌, ◌<◌, ◌≤◌, Bool, true, false, ◌&&◌, ltb, List, [], ◌∷◌, ◌++◌, length, get_or, take, drop, Some, None, decimal, sym, refl, ap, ◌∙◌, subst, ⊎_elim, mul-le-mul_right, suc-mul, add-mul, one-mul, zero-mul, add-one, arith}
use borrow.Rule.Slice.PartMut.{put_mid, post_of}
use Rattle.std.specs.List.{AllByRecursion, All}
use Rattle.std.proofs.lemmas.List.FromFn.{length-map-range_with_len, get_or-map-range_with_len}
use Rattle.std.proofs.ByRecursion.{All-append, All-from_get_or, All-weaker}
use Rattle.std.proofs.lemmas.List.{append_assoc, drop_at, drop-drop, length-append, get_or_append_left, get_or-append_right, get_or-take, get_or_default, length-take, take_at}
use Rattle.std.proofs.lemmas.Slice.{take-put_mid}
use Rattle.std.proofs.lemmas.Bool.{cases_eq, cases_Bool, false≢true, and_from, and_right, cond-true, cond-false, lt-ltb, le-ltb}
use Rattle.visibility.specs.declared.refusal.Refusal.TheVariants.{SpaceTooShort}
use Rattle.visibility.specs.Bits.{bit}
use Rattle.visibility.specs.Bitmaps.{every, below, width, octet, packed, pixels, heading, bitmap, no_bitmap, Pbm}
use Rattle.visibility.specs.Decimals.{Digit}
use Rattle.visibility.specs.Sets.{Numbers, marks}
use Rattle.visibility.specs.States.{State}
use Rattle.visibility.specs.Worlds.{World}
use Rattle.visibility.proofs.Binary.{bit_binary, binary_below}
use Rattle.visibility.proofs.Decimals.{numeral_decimal}

pub every_not : (n a : ℕ) (s : Numbers) → a < n → s a ≡ false → every n s ≡ false
unfolding every
every_not zero a s l h = absurd (omega arith)
every_not (suc n) a s l h =
    ⊎_elim
    (λ (e : a ≡ n). and_right (every n s) (s n) (subst (λ (x : ℕ). s x ≡ false) e h))
    (λ (ne : a ≡ n → ⊥). ap (λ (b : Bool). b && s n) (every_not n a s (omega arith) h))
    (cases_eq a n)

pub every_all : (n : ℕ) (s : Numbers) → ((x : ℕ) → x < n → s x ≡ true) → every n s ≡ true
unfolding every
every_all zero s h = refl
every_all (suc n) s h = and_from _ _ (every_all n s (λ x l. h x (omega arith))) (h n (omega arith))

every_at : (n : ℕ) (s : Numbers) → every n s ≡ true → (x : ℕ) → x < n → s x ≡ true
every_at n s e x l =
    ⊎_elim
    (λ (t : s x ≡ true). t)
    (λ (f : s x ≡ false). absurd (false≢true (sym (every_not n x s l f) ∙ e)))
    (cases_Bool (s x))

-- what a test of the first n marks gives
pub every_marked :
    (n : ℕ) (xs : List Bool) (b : Bool) → n ≤ length xs → IsTrue b ↔ All (λ x. IsTrue x) (take n xs) → b ≡ every n (marks xs)
every_marked n xs b l h =
    let at : (k : ℕ) (d : Bool) → k < n → get_or (take n xs) k d ≡ marks xs k =
    λ k d m. get_or-take n xs k d m ∙ get_or_default xs k d false (omega arith) in
    ⊎_elim
    (λ (t : every n (marks xs) ≡ true). h.1 (λ k d m. at k d (omega (arith, length-take n xs)) ∙ every_at n (marks xs) t k (omega (arith, length-take n xs))) ∙ sym t)
    (λ (f : every n (marks xs) ≡ false).
    ⊎_elim
    (λ (y : b ≡ true). absurd (false≢true (sym f ∙ every_all n (marks xs) (λ k m. sym (at k false m) ∙ h.0 y k false (omega (arith, length-take n xs))))))
    (λ (no : b ≡ false). no ∙ sym f)
    (cases_Bool b))
    (cases_Bool (every n (marks xs)))

length_packed : (n : ℕ) (s : Numbers) → length (packed n s) ≡ width n
unfolding packed
length_packed n s = length-map-range_with_len (octet n s) 0 (width n)

get_or_packed : (n : ℕ) (s : Numbers) (k : ℕ) → k < width n → get_or (packed n s) k 0 ≡ octet n s k
unfolding packed
get_or_packed n s k l = get_or-map-range_with_len (octet n s) 0 (width n) k k 0 l (omega arith)

pub pixels_none : (n : ℕ) (v : ℕ → Numbers) → pixels n 0 v ≡ []
unfolding pixels
pixels_none n v = refl

pixels_more : (n m : ℕ) (v : ℕ → Numbers) → pixels n (m + 1) v ≡ pixels n m v ++ packed n (v m)
unfolding pixels
pixels_more n m v = ap (λ (k : ℕ). pixels n k v) (add-one m)

-- the part of row a ends before the rows end
pub part_within : (a n w : ℕ) → a < n → a * w + w ≤ n * w
part_within a n w l =
    let s : suc a * w ≤ n * w = mul-le-mul_right w l in
    omega (arith, suc-mul a w)

-- row a is written into its part, behind those before it
pub part_written :
    (n a k : ℕ) (v : ℕ → Numbers) (xs ys : List ℕ) → a * width n ≤ length xs
    → take (a * width n) xs ≡ pixels n a v → ys ≡ packed n (v a)
    → take ((a + 1) * width n) (put_mid (a * width n) k xs ys) ≡ pixels n (a + 1) v
part_written n a k v xs ys l front here =
    let w = width n in
    let long : length ys ≡ w = ap length here ∙ length_packed n (v a) in
    let next : (a + 1) * w ≡ a * w + length ys = omega (arith, add-mul a 1 w, one-mul w) in
    take-put_mid (a * w) k xs ys ((a + 1) * w) next l
    ∙ ap (λ (z : List ℕ). z ++ ys) front
    ∙ ap (λ (z : List ℕ). pixels n a v ++ z) here
    ∙ sym (pixels_more n a v)

pub length_pixels : (n m : ℕ) (v : ℕ → Numbers) → length (pixels n m v) ≡ m * width n
unfolding pixels
length_pixels n zero v = sym (zero-mul (width n))
length_pixels n (suc m) v =
    let front = length_pixels n m v in
    let last = length_packed n (v m) in
    omega (arith, length-append (pixels n m v) (packed n (v m)), suc-mul m (width n))

-- byte k of row a
get_or_pixels : (n m : ℕ) (v : ℕ → Numbers) (a k : ℕ) → a < m → k < width n → get_or (pixels n m v) (a * width n + k) 0 ≡ octet n (v a) k
unfolding pixels
get_or_pixels n zero v a k l h = absurd (omega arith)
get_or_pixels n (suc m) v a k l h =
    let w = width n in
    let long = length_pixels n m v in
    ⊎_elim
    (λ (e : a ≡ m).
    subst (λ (x : ℕ). get_or (pixels n m v ++ packed n (v m)) (x * w + k) 0 ≡ octet n (v x) k) (sym e)
    (let z : m * w + k - m * w ≡ k = omega arith in
    get_or-append_right (pixels n m v) (packed n (v m)) (m * w) (m * w + k) 0 long (omega arith)
    ∙ ap (λ (i : ℕ). get_or (packed n (v m)) i 0) z
    ∙ get_or_packed n (v m) k h))
    (λ (ne : a ≡ m → ⊥).
    let before : a < m = omega arith in
    let part = part_within a m w before in
    get_or_append_left (pixels n m v) (packed n (v m)) 0 (a * w + k) (omega arith) ∙ get_or_pixels n m v a k before h)
    (cases_eq a m)

-- pixel b of row a
pixel :
    (n : ℕ) (v : ℕ → Numbers) (a b : ℕ) → a < n → b < 8 * width n
    → bit (get_or (pixels n n v) (a * width n + b / 8) 0) (7 - b % 8) ≡ below n (v a) b
unfolding octet
pixel n v a b l h =
    let z : 8 * (b / 8) + b % 8 ≡ b = omega arith in
    ap (λ (x : ℕ). bit x (7 - b % 8)) (get_or_pixels n n v a (b / 8) l (omega arith))
    ∙ bit_binary (λ i. below n (v a) (8 * (b / 8) + i)) (b % 8) (omega arith)
    ∙ ap (λ (x : ℕ). below n (v a) x) z

packed_bytes : (n : ℕ) (s : Numbers) → AllByRecursion (λ x. x < 256) (packed n s)
unfolding octet
packed_bytes n s =
    All-from_get_or (λ (x : ℕ). x < 256) (packed n s) 0
    (λ i l.
    let h : i < width n = omega (arith, length_packed n s) in
    subst (λ (x : ℕ). x < 256) (sym (get_or_packed n s i h)) (binary_below 8 (λ j. below n s (8 * i + j))))

pixels_bytes : (n m : ℕ) (v : ℕ → Numbers) → AllByRecursion (λ x. x < 256) (pixels n m v)
unfolding pixels
pixels_bytes n zero v = tt
pixels_bytes n (suc m) v =
    All-append (λ (x : ℕ). x < 256) (pixels n m v) (packed n (v m)) (pixels_bytes n m v) (packed_bytes n (v m))

heading_bytes : (ds : List ℕ) → AllByRecursion Digit ds → AllByRecursion (λ x. x < 256) (80 ∷ 52 ∷ 10 ∷ (ds ++ 32 ∷ (ds ++ 10 ∷ [])))
heading_bytes ds h =
    let P : ℕ → Type 0 = λ x. x < 256 in
    let small : AllByRecursion P ds = All-weaker Digit P (λ x d. omega arith) ds h in
    (omega arith, (omega arith, (omega arith, All-append P ds _ small (omega arith, All-append P ds _ small (omega arith, tt)))))

-- the bitmap, in the format's words
pub bitmap_pbm : (n : ℕ) (v : ℕ → Numbers) → 1 ≤ n → n < 1000 → Pbm n v (bitmap n v)
unfolding heading
bitmap_pbm n v l h =
    let numeral = numeral_decimal n l h in
    record {
      ds = decimal n;
      rows = pixels n n v;
      numeral = numeral;
      split = refl;
      size = length_pixels n n v;
      rooms = λ a b i j. pixel n v a b i (omega arith) ∙ ap (λ (t : Bool). t && v a b) (lt-ltb b n j);
      spare = λ a b i j k. pixel n v a b i k ∙ ap (λ (t : Bool). t && v a b) (le-ltb b n j);
      bytes = All-append (λ (x : ℕ). x < 256) (heading n) (pixels n n v) (heading_bytes (decimal n) numeral.digits) (pixels_bytes n n v);
    }

length_bitmap : (n : ℕ) (v : ℕ → Numbers) → length (bitmap n v) ≡ length (heading n) + n * width n
length_bitmap n v = length-append (heading n) (pixels n n v) ∙ ap (λ (k : ℕ). length (heading n) + k) (length_pixels n n v)

-- a heading and rows, each written into its own part of a space
pub laid :
    (h p s ys zs : List ℕ) (a b k : ℕ) → ys ≡ h → zs ≡ p → a ≡ length h → b ≡ a
    → put_mid a k (ys ++ post_of 0 b s) zs ≡ (h ++ p) ++ drop (a + k) s
laid h p s ys zs a b k eh ep long same =
    let xs = ys ++ post_of 0 b s in
    let wide : length ys ≡ a = ap length eh ∙ sym long in
    ap (λ (z : List ℕ). z ++ (zs ++ drop k (drop a xs))) (take_at ys _ a wide ∙ eh)
    ∙ ap (λ (z : List ℕ). h ++ (z ++ drop k (drop a xs))) ep
    ∙ ap (λ (z : List ℕ). h ++ (p ++ z))
    (ap (drop k) (drop_at ys _ a wide) ∙ drop-drop k b s ∙ ap (λ (m : ℕ). drop (m + k) s) same)
    ∙ sym (append_assoc h p (drop (a + k) s))

-- the bytes at the front of the space are a bitmap
pub front_pbm :
    (n len : ℕ) (v : ℕ → Numbers) (xs rest : List ℕ) → 1 ≤ n → n < 1000 → xs ≡ bitmap n v ++ rest → len ≡ length (bitmap n v)
    → Pbm n v (take len xs)
front_pbm n len v xs rest l h e long =
    subst (λ (z : List ℕ). Pbm n v z) (sym (ap (take len) e ∙ take_at (bitmap n v) rest len (sym long))) (bitmap_pbm n v l h)

pub bitmap_size :
    (m n at : ℕ) (v : ℕ → Numbers) → m ≡ n → at ≡ length (heading m) → at + m * width m ≡ length (bitmap n v)
bitmap_size m n at v e long =
    ap (λ (k : ℕ). k + m * width m) long
    ∙ ap (λ (k : ℕ). length (heading k) + k * width k) e
    ∙ sym (length_bitmap n v)

module _ (w : World) (s : State) (len : ℕ) (full : every w.rooms s.filled ≡ true) where
  pub bitmap_short : len < length (bitmap w.rooms s.shows) → no_bitmap w s len ≡ Some SpaceTooShort
  bitmap_short l = cond-true (every w.rooms s.filled) _ _ full ∙ cond-true (ltb len (length (bitmap w.rooms s.shows))) _ _ (lt-ltb len _ l)

  pub bitmap_granted : length (bitmap w.rooms s.shows) ≤ len → no_bitmap w s len ≡ None
  bitmap_granted l = cond-true (every w.rooms s.filled) _ _ full ∙ cond-false (ltb len (length (bitmap w.rooms s.shows))) _ _ (le-ltb len _ l)
