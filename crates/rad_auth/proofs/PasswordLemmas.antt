-- Hidden texts, and that they are opened again.
use Rattle.std.proofs.Common.{◌≡◌, ℕ, zero, suc, ◌+◌, ◌-◌, ◌*◌, ◌/◌, ◌<◌, ◌≤◌, ◌==◌, List, [], ◌∷◌, ◌++◌, length, get_or, take}
use Rattle.std.proofs.Common.{drop, replicate, refl, sym, ap, subst, ◌∙◌, arith}
use Rattle.std.specs.Prelude.{IsTrue}
use Rattle.std.specs.List.{concat}
use Rattle.std.specs.Int.Bits.{bit_xor, xor_assoc, xor_self, xor_zero_r}
use lib.Pointwise.{pointwise}
use Rattle.std.proofs.lemmas.Bool.Decides.{nat_tests, same_from_decides, Decides-like}
use Rattle.std.proofs.lemmas.Simd.{length-zip2}
use Rattle.std.proofs.lemmas.Slice.Eq.{bytes_eq-Decides}
use Rattle.std.proofs.lemmas.List.{append_assoc, drop-drop, drop_at, length-append, length-drop, length-replicate, length-take-le}
use Rattle.std.proofs.lemmas.List.{take-append-drop, take-replicate, take_at}
use Rattle.std.proofs.Math.Seq.{drop-append-add, take-append-add}
use Rattle.std.proofs.lemmas.Slice.{take-put_mid, drop-put_mid}
use borrow.Rule.Slice.PartMut.{put_mid}
use Rattle.md5.specs.Md5.{md5}
use Rattle.md5.proofs.StandardFacts.{length-md5}
use Rattle.rad_hmac.specs.Hmac.{xor}
use Rattle.rad_auth.specs.PasswordBlocks.{block_before}
use Rattle.rad_auth.specs.Passwords.{IsRevealed, block_count, first_blocks, hidden_blocks, hidden_text, padded_password, value_fits}

-- the first n blocks of a text, hidden
unfoldable pub hidden : List ℕ → List ℕ → ℕ → List ℕ → List ℕ
hidden secret before n text = concat (hidden_blocks secret before (first_blocks n text))

-- the first n blocks of a value, opened
unfoldable pub opened : List ℕ → List ℕ → ℕ → List ℕ → List ℕ
opened secret before zero value = []
opened secret before (suc n) value = xor (take 16 value) (md5 (secret ++ before)) ++ opened secret (take 16 value) n (drop 16 value)

-- the exclusive or with the same octets twice changes nothing
xor_twice : (a b : List ℕ) → length a ≤ length b → xor (xor a b) b ≡ a
xor_twice [] b h = refl
xor_twice (x ∷ xs) [] h = absurd (omega arith)
xor_twice (x ∷ xs) (y ∷ ys) h =
    ap (λ (z : ℕ). z ∷ xor (xor xs ys) ys) (xor_assoc x y y ∙ ap (bit_xor x) (xor_self y) ∙ xor_zero_r x)
    ∙ ap (λ (zs : List ℕ). x ∷ zs) (xor_twice xs ys (omega arith))

-- how long a text's first block is once it is hidden
block_length : (text m : List ℕ) → 16 ≤ length text → length (xor (take 16 text) (md5 m)) ≡ 16
block_length text m h =
    let long : length (take 16 text) ≡ 16 = length-take-le 16 text h in
    length-zip2 bit_xor (take 16 text) (md5 m) (long ∙ sym (length-md5 m)) ∙ long

-- a block, hidden twice by the same digest, is the block
block_twice : (text m : List ℕ) → 16 ≤ length text → xor (xor (take 16 text) (md5 m)) (md5 m) ≡ take 16 text
block_twice text m h = xor_twice (take 16 text) (md5 m) (omega (arith, length-take-le 16 text h, length-md5 m))

-- as many octets are opened as a value has
length-opened : (secret before : List ℕ) (n : ℕ) (value : List ℕ) → n * 16 ≤ length value
    → length (opened secret before n value) ≡ n * 16
unfolding opened
length-opened secret before zero value h = refl
length-opened secret before (suc n) value h =
    let head : List ℕ = xor (take 16 value) (md5 (secret ++ before)) in
    let rest = length-opened secret (take 16 value) n (drop 16 value) (omega (arith, length-drop 16 value)) in
    let total = length-append head (opened secret (take 16 value) n (drop 16 value)) in
    omega (arith, total, rest, block_length value (secret ++ before) (omega arith))

-- what is opened is hidden as the value
hides-opened : (secret before : List ℕ) (n : ℕ) (value : List ℕ) → length value ≡ n * 16
    → hidden secret before n (opened secret before n value) ≡ value
unfolding hidden opened
hides-opened secret before zero [] e = refl
hides-opened secret before zero (x ∷ xs) e = absurd (omega (arith, e))
hides-opened secret before (suc n) value e =
    let pad : List ℕ = md5 (secret ++ before) in
    let block : List ℕ = xor (take 16 value) pad in
    let others : List ℕ = opened secret (take 16 value) n (drop 16 value) in
    let long : length block ≡ 16 = block_length value (secret ++ before) (omega (arith, e)) in
    let twice : xor block pad ≡ take 16 value = block_twice value (secret ++ before) (omega (arith, e)) in
    ap (λ (b : List ℕ). xor b pad ++ hidden secret (xor b pad) n (drop 16 (block ++ others))) (take_at block others 16 long)
    ∙ ap (λ (t : List ℕ). xor block pad ++ hidden secret (xor block pad) n t) (drop_at block others 16 long)
    ∙ ap (λ (b : List ℕ). b ++ hidden secret b n others) twice
    ∙ ap (λ (t : List ℕ). take 16 value ++ t)
    (hides-opened secret (take 16 value) n (drop 16 value) (omega (arith, e, length-drop 16 value)))
    ∙ take-append-drop 16 value

-- a text is what its value is opened as
opened-hidden : (secret before : List ℕ) (n : ℕ) (text : List ℕ) → length text ≡ n * 16
    → opened secret before n (hidden secret before n text) ≡ text
unfolding hidden opened
opened-hidden secret before zero [] e = refl
opened-hidden secret before zero (x ∷ xs) e = absurd (omega (arith, e))
opened-hidden secret before (suc n) text e =
    let pad : List ℕ = md5 (secret ++ before) in
    let block : List ℕ = xor (take 16 text) pad in
    let others : List ℕ = hidden secret block n (drop 16 text) in
    let long : length block ≡ 16 = block_length text (secret ++ before) (omega (arith, e)) in
    let twice : xor block pad ≡ take 16 text = block_twice text (secret ++ before) (omega (arith, e)) in
    ap (λ (b : List ℕ). xor b pad ++ opened secret b n (drop 16 (block ++ others))) (take_at block others 16 long)
    ∙ ap (λ (t : List ℕ). xor block pad ++ opened secret block n t) (drop_at block others 16 long)
    ∙ ap (λ (b : List ℕ). b ++ opened secret block n others) twice
    ∙ ap (λ (t : List ℕ). take 16 text ++ t) (opened-hidden secret block n (drop 16 text) (omega (arith, e, length-drop 16 text)))
    ∙ take-append-drop 16 text

-- what is opened of a whole value
pub reveals : (secret before : List ℕ) (n : ℕ) (value : List ℕ) → length value ≡ n * 16
    → IsRevealed secret before value (opened secret before n value)
unfolding hidden opened
reveals secret before n value e = record {
  same_length = long;
  hides = subst (λ k. hidden secret before k text ≡ value) (sym (blocks text long)) (hides-opened secret before n value e);
  only = λ other same hides. sym (opened-hidden secret before n other (same ∙ e))
      ∙ ap (opened secret before n) (subst (λ k. hidden secret before k other ≡ value) (blocks other same) hides);
}
  where
    text : List ℕ
    text = opened secret before n value

    long : length text ≡ length value
    long = length-opened secret before n value (omega (arith, e)) ∙ sym e

    blocks : (t : List ℕ) → length t ≡ length value → block_count (length t) ≡ n
    blocks t h = omega (arith, h, e)

-- one block more is hidden in its place
pub hidden_more : (secret before : List ℕ) (n i k : ℕ) (text pad ys whole : List ℕ) → k ≡ 16 → i < n → n * 16 ≤ length text
    → ys ≡ xor (take k (drop (i * 16) text)) pad → pad ≡ md5 (secret ++ before)
    → take (i * 16) text ++ hidden secret before (n - i) (drop (i * 16) text) ≡ whole
    → take ((i + 1) * 16) (put_mid (i * 16) k text ys)
    ++ hidden secret ys (n - (i + 1)) (drop ((i + 1) * 16) (put_mid (i * 16) k text ys)) ≡ whole
unfolding hidden
hidden_more secret before n i k text pad ys whole size lt room made padded so_far =
    let rest : List ℕ = drop (i * 16) text in
    let h : List ℕ = xor (take 16 rest) (md5 (secret ++ before)) in
    let ys_is : ys ≡ h = made ∙ ap (λ m. xor (take m rest) pad) size ∙ ap (xor (take 16 rest)) padded in
    let long : length ys ≡ 16 = ap length ys_is ∙ block_length rest (secret ++ before) (omega (arith, length-drop (i * 16) text)) in
    let left : n - i ≡ suc (n - (i + 1)) = omega arith in
    let next : drop 16 rest ≡ drop ((i + 1) * 16) text = drop-drop 16 (i * 16) text ∙ ap (λ m. drop m text) (omega arith) in
    let turn : hidden secret before (n - i) rest ≡ ys ++ hidden secret ys (n - (i + 1)) (drop ((i + 1) * 16) text) =
    ap (λ m. hidden secret before m rest) left
    ∙ ap (λ (r : List ℕ). h ++ hidden secret h (n - (i + 1)) r) next
    ∙ ap (λ (b : List ℕ). b ++ hidden secret b (n - (i + 1)) (drop ((i + 1) * 16) text)) (sym ys_is) in
    ap (λ (t : List ℕ). t ++ hidden secret ys (n - (i + 1)) (drop ((i + 1) * 16) (put_mid (i * 16) k text ys)))
    (take-put_mid (i * 16) k text ys ((i + 1) * 16) (omega (arith, long)) (omega arith))
    ∙ ap (λ (t : List ℕ). (take (i * 16) text ++ ys) ++ hidden secret ys (n - (i + 1)) t)
    (drop-put_mid (i * 16) k text ys ((i + 1) * 16) (omega (arith, size)) (omega arith) (long ∙ sym size))
    ∙ append_assoc (take (i * 16) text) ys (hidden secret ys (n - (i + 1)) (drop ((i + 1) * 16) text))
    ∙ ap (λ (t : List ℕ). take (i * 16) text ++ t) (sym turn)
    ∙ so_far

-- one block more is opened
pub opened_more : (secret before : List ℕ) (n i k : ℕ) (value text pad ys whole : List ℕ) → k ≡ 16 → i < n → n * 16 ≤ length value
    → n * 16 ≤ length text
    → ys ≡ xor (take k (drop (i * 16) value)) pad → pad ≡ md5 (secret ++ before)
    → take (i * 16) text ++ opened secret before (n - i) (drop (i * 16) value) ≡ whole
    → take ((i + 1) * 16) (put_mid (i * 16) k text ys)
    ++ opened secret (take 16 (drop (i * 16) value)) (n - (i + 1)) (drop ((i + 1) * 16) value) ≡ whole
unfolding opened
opened_more secret before n i k value text pad ys whole size lt within room made padded so_far =
    let rest : List ℕ = drop (i * 16) value in
    let t : List ℕ = xor (take 16 rest) (md5 (secret ++ before)) in
    let ys_is : ys ≡ t = made ∙ ap (λ m. xor (take m rest) pad) size ∙ ap (xor (take 16 rest)) padded in
    let long : length ys ≡ 16 =
    ap length ys_is ∙ block_length rest (secret ++ before) (omega (arith, length-drop (i * 16) value)) in
    let left : n - i ≡ suc (n - (i + 1)) = omega arith in
    let next : drop 16 rest ≡ drop ((i + 1) * 16) value = drop-drop 16 (i * 16) value ∙ ap (λ m. drop m value) (omega arith) in
    let turn : opened secret before (n - i) rest ≡ ys ++ opened secret (take 16 rest) (n - (i + 1)) (drop ((i + 1) * 16) value) =
    ap (λ m. opened secret before m rest) left
    ∙ ap (λ (r : List ℕ). t ++ opened secret (take 16 rest) (n - (i + 1)) r) next
    ∙ ap (λ (b : List ℕ). b ++ opened secret (take 16 rest) (n - (i + 1)) (drop ((i + 1) * 16) value)) (sym ys_is) in
    ap (λ (o : List ℕ). o ++ opened secret (take 16 rest) (n - (i + 1)) (drop ((i + 1) * 16) value))
    (take-put_mid (i * 16) k text ys ((i + 1) * 16) (omega (arith, long)) (omega arith))
    ∙ append_assoc (take (i * 16) text) ys (opened secret (take 16 rest) (n - (i + 1)) (drop ((i + 1) * 16) value))
    ∙ ap (λ (o : List ℕ). take (i * 16) text ++ o) (sym turn)
    ∙ so_far

-- what precedes a value's first block, and the next one
pub before_first : (request_authenticator value : List ℕ) → length request_authenticator ≡ 16
    → block_before request_authenticator value 0 ≡ request_authenticator
before_first request_authenticator value e = take_at request_authenticator value 16 e

pub before_next : (request_authenticator value : List ℕ) (j : ℕ) → length request_authenticator ≡ 16
    → block_before request_authenticator value (j + 1) ≡ take 16 (drop (j * 16) value)
before_next request_authenticator value j e =
    let place : (j + 1) * 16 ≡ length request_authenticator + j * 16 = omega (arith, e) in
    ap (λ k. take 16 (drop k (request_authenticator ++ value))) place
    ∙ ap (take 16) (drop-append-add request_authenticator value (j * 16))

-- a password with zeros after it
pub length-padded : (len : ℕ) (password : List ℕ) → length password ≤ len → length (padded_password len password) ≡ len
length-padded len password le =
    length-append password (replicate (len - length password) 0)
    ∙ omega (arith, le, length-replicate {A = ℕ} (len - length password) 0)

pub take-padded : (len most : ℕ) (password : List ℕ) → length password ≤ len → len ≤ most
    → take len (padded_password most password) ≡ padded_password len password
take-padded len most password le within =
    let zeros : List ℕ = replicate (most - length password) 0 in
    let n : ℕ = len - length password in
    let whole : len ≡ length password + n = omega (arith, le) in
    ap (λ k. take k (password ++ zeros)) whole ∙ take-append-add password zeros n
    ∙ ap (λ (z : List ℕ). password ++ z) (take-replicate n (most - length password) 0 (omega (arith, le, within)))

-- a text is the one that is hidden as a value exactly where it is hidden as the value
pub hides_same : (secret request_authenticator value text other : List ℕ) → IsRevealed secret request_authenticator value text
    → length other ≡ length value
    → pointwise ◌==◌ other text ≡ pointwise ◌==◌ (hidden_text secret request_authenticator other) value
hides_same secret request_authenticator value text other revealed long =
    same_from_decides (pointwise ◌==◌ other text) (pointwise ◌==◌ hidden_other value)
    (Decides-like (pointwise ◌==◌ other text) (λ e. ap (hidden_text secret request_authenticator) e ∙ revealed.hides)
    (revealed.only other long) (bytes_eq-Decides other text))
    (bytes_eq-Decides hidden_other value)
  where
    hidden_other : List ℕ
    hidden_other = hidden_text secret request_authenticator other

-- a value that fits has whole blocks, and no more than its room
pub whole_blocks : (value : List ℕ) → IsTrue (value_fits value) → length value ≡ length value / 16 * 16
whole_blocks value h = grind (arith, nat_tests, h)

pub fits_room : (value : List ℕ) → IsTrue (value_fits value) → length value ≤ 128
fits_room value h = grind (arith, nat_tests, h)

-- the digest that hides a block past the first
pub pad_next : (secret request_authenticator value text digest : List ℕ) (j : ℕ) → length request_authenticator ≡ 16
    → digest ≡ md5 text → text ≡ secret ++ take 16 (drop (j * 16) value)
    → digest ≡ md5 (secret ++ block_before request_authenticator value (j + 1))
pad_next secret request_authenticator value text digest j long made is =
    made ∙ ap md5 is ∙ ap (λ (b : List ℕ). md5 (secret ++ b)) (sym (before_next request_authenticator value j long))

-- the digests of a value that has one block
pub only_block : (digests : List (List ℕ)) (wanted : ℕ → List ℕ) (value : List ℕ) → length value ≡ 16
    → get_or digests 0 [] ≡ wanted 0 → (j : ℕ) → j * 16 < length value → get_or digests j [] ≡ wanted j
only_block digests wanted value e first zero h = first
only_block digests wanted value e first (suc n) h = absurd (omega (arith, e, h))
