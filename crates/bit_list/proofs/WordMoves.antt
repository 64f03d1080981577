-- Bits that are copied between words.
use Rattle.std.proofs.Common.{◌≡◌, ◌<◌, ◌≤◌, ℕ, suc, ◌+◌, ◌-◌, ◌*◌, ◌/◌, ◌%◌, Bool, List, [], ◌∷◌, ◌++◌, length, take, drop, set, replicate, sym, ap, ap₂, ◌∙◌, append_assoc, arith}
use borrow.Rule.Slice.PartMut.{put_mid}
use Rattle.std.proofs.lemmas.List.{append-nil, length-drop, length-take-le, take_more_set, set_split, drop-drop, length-replicate, replicate-append-replicate}
use Rattle.std.proofs.lemmas.List.Concat.{flat_map-append}
use Rattle.base.specs.Bits.{low_bits, number_of}
use Rattle.base.proofs.NumberBits.{length-low_bits, low_bits-number_of}
use Rattle.bit_list.specs.Ranges.{taken, spliced}
use Rattle.bit_list.specs.Words.{word_size, bits_of_words}
use Rattle.bit_list.proofs.Splices.{length_taken, length_spliced, taken_joined, taken_above, taken_below, spliced_next, spliced_before}
use Rattle.bit_list.proofs.WordBits.{word_size_is, length_bits_of_words, take_words, drop_words}

-- the bits of a part's number are the part
pub bits_of_part : (low n word : ℕ) (bits : List Bool) → low + n ≤ length bits → word ≡ number_of (taken low n bits) → low_bits n word ≡ taken low n bits
bits_of_part low n word bits h e =
    ap (low_bits n) e ∙ ap (λ k. low_bits k (number_of (taken low n bits))) (sym (length_taken low n bits h)) ∙ low_bits-number_of (taken low n bits)

pub part_copied : (at low n word : ℕ) (from to new : List ℕ) → low + n ≤ 64 * length from → word ≡ number_of (taken low n (bits_of_words from)) →
    bits_of_words new ≡ spliced at (low_bits n word) (bits_of_words to) → bits_of_words new ≡ spliced at (taken low n (bits_of_words from)) (bits_of_words to)
part_copied at low n word from to new h e w =
    w ∙ ap (λ z. spliced at z (bits_of_words to)) (bits_of_part low n word (bits_of_words from) (omega (arith, length_bits_of_words from)) e)

-- one more word is copied
pub word_more : (low i word : ℕ) (to from : List ℕ) → i < length to → low + 64 * i + 64 ≤ 64 * length from →
    bits_of_words (take i to) ≡ taken low (64 * i) (bits_of_words from) →
    word ≡ number_of (taken (low + 64 * i) 64 (bits_of_words from)) → bits_of_words (take (i + 1) (set to i word))
    ≡ taken low (64 * (i + 1)) (bits_of_words from)
word_more low i word to from h inside before e =
    let size : 64 * i + word_size ≡ 64 * (i + 1) = omega (arith, word_size_is) in
    let part : low_bits word_size word ≡ taken (low + 64 * i) word_size (bits_of_words from) =
    bits_of_part (low + 64 * i) word_size word (bits_of_words from) (omega (arith, word_size_is, length_bits_of_words from))
    (e ∙ ap (λ k. number_of (taken (low + 64 * i) k (bits_of_words from))) (sym word_size_is)) in
    ap bits_of_words (take_more_set to i word h) ∙ flat_map-append (low_bits word_size) (take i to) (word ∷ [])
    ∙ ap₂ (λ x y. x ++ y) before (append-nil (low_bits word_size word) ∙ part)
    ∙ taken_joined low (64 * i) word_size (bits_of_words from)
    ∙ ap (λ k. taken low k (bits_of_words from)) size

-- whole words are copied
pub words_copied : (low count : ℕ) (from to : List ℕ) → low % 64 ≡ 0 → low + 64 * count ≤ 64 * length from →
    to ≡ take (low / 64 + count - low / 64) (drop (low / 64) from) →
    bits_of_words to ≡ taken low (64 * count) (bits_of_words from)
words_copied low count from to aligned inside e =
    let amount : low / 64 + count - low / 64 ≡ count = omega arith in
    let place : 64 * (low / 64) ≡ low = omega arith in
    let rest : length (drop (low / 64) from) ≡ length from - low / 64 = length-drop (low / 64) from in
    ap bits_of_words (e ∙ ap (λ k. take k (drop (low / 64) from)) amount)
    ∙ sym (take_words count (drop (low / 64) from) (omega arith))
    ∙ ap (take (64 * count)) (sym (drop_words (low / 64) from (omega arith)) ∙ ap (λ k. drop k (bits_of_words from)) place)

-- words in the middle are written
pub middle_written : (at count : ℕ) (to part : List ℕ) (bits : List Bool) → at % 64 ≡ 0 → at + 64 * count ≤ 64 * length to →
    length part ≡ length (take (at / 64 + count - at / 64) (drop (at / 64) to)) →
    bits_of_words part ≡ bits → bits_of_words (put_mid (at / 64) (at / 64 + count - at / 64) to part) ≡ spliced at bits (bits_of_words to)
middle_written at count to part bits aligned inside size e =
    let amount : at / 64 + count - at / 64 ≡ count = omega arith in
    let place : 64 * (at / 64) ≡ at = omega arith in
    let rest : length (drop (at / 64) to) ≡ length to - at / 64 = length-drop (at / 64) to in
    let many : length part ≡ count = size ∙ ap (λ k. length (take k (drop (at / 64) to))) amount ∙ length-take-le count (drop (at / 64) to) (omega arith) in
    let long : length bits ≡ 64 * count = ap length (sym e) ∙ length_bits_of_words part ∙ ap (λ k. 64 * k) many in
    let after : 64 * (at / 64 + count) ≡ at + length bits = omega arith in
    ap (λ k. bits_of_words (take (at / 64) to ++ (part ++ drop k (drop (at / 64) to)))) amount
    ∙ flat_map-append (low_bits word_size) (take (at / 64) to) (part ++ drop count (drop (at / 64) to))
    ∙ ap (λ z. bits_of_words (take (at / 64) to) ++ z) (flat_map-append (low_bits word_size) part (drop count (drop (at / 64) to)))
    ∙ ap₂ (λ x y. x ++ (bits_of_words part ++ y))
    (sym (take_words (at / 64) to (omega arith)) ∙ ap (λ k. take k (bits_of_words to)) place)
    (ap bits_of_words (drop-drop count (at / 64) to) ∙ sym (drop_words (at / 64 + count) to (omega arith)) ∙ ap (λ k. drop k (bits_of_words to)) after)
    ∙ ap (λ z. take at (bits_of_words to) ++ (z ++ drop (at + length bits) (bits_of_words to))) e
    ∙ sym (append_assoc (take at (bits_of_words to)) bits (drop (at + length bits) (bits_of_words to)))

-- a range in three parts
pub three_parts : (at low head middle n : ℕ) (from old : List Bool) (first second third : List Bool) →
    head + middle ≤ n → low + n ≤ length from → at + n ≤ length old →
    first ≡ spliced at (taken low head from) old → second ≡ spliced (at + head) (taken (low + head) middle from) first →
    third ≡ spliced (at + (head + middle)) (taken (low + (head + middle)) (n - (head + middle)) from) second → third ≡ spliced at (taken low n from) old
three_parts at low head middle n from old first second third h inside room a b c =
    let one : length (taken low head from) ≡ head = length_taken low head from (omega arith) in
    let two : length (taken low (head + middle) from) ≡ head + middle = length_taken low (head + middle) from (omega arith) in
    let done : second ≡ spliced at (taken low (head + middle) from) old =
    b ∙ ap (spliced (at + head) (taken (low + head) middle from)) a
    ∙ spliced_next at (at + head) (taken low head from) (taken (low + head) middle from) old (omega arith) (omega arith)
    ∙ ap (λ z. spliced at z old) (taken_joined low head middle from) in
    let whole : head + middle + (n - (head + middle)) ≡ n = omega arith in
    c ∙ ap (spliced (at + (head + middle)) (taken (low + (head + middle)) (n - (head + middle)) from)) done
    ∙ spliced_next at (at + (head + middle)) (taken low (head + middle) from)
    (taken (low + (head + middle)) (n - (head + middle)) from) old (omega arith) (omega arith)
    ∙ ap (λ z. spliced at z old) (taken_joined low (head + middle) (n - (head + middle)) from ∙ ap (λ k. taken low k from) whole)

-- one more block is moved down
pub moved_down : (at low done len word : ℕ) (start now new : List ℕ) → at ≤ low → low + done + len ≤ 64 * length start →
    bits_of_words now ≡ spliced at (taken low done (bits_of_words start)) (bits_of_words start) →
    word ≡ number_of (taken (low + done) len (bits_of_words now)) →
    bits_of_words new ≡ spliced (at + done) (low_bits len word) (bits_of_words now) →
    bits_of_words new ≡ spliced at (taken low (done + len) (bits_of_words start)) (bits_of_words start)
moved_down at low done len word start now new down inside before e w =
    let size : length (bits_of_words start) ≡ 64 * length start = length_bits_of_words start in
    let part : length (taken low done (bits_of_words start)) ≡ done = length_taken low done (bits_of_words start) (omega arith) in
    let same : length (bits_of_words now) ≡ length (bits_of_words start) =
    ap length before ∙ length_spliced at (taken low done (bits_of_words start)) (bits_of_words start) (omega arith) in
    let read : taken (low + done) len (bits_of_words now) ≡ taken (low + done) len (bits_of_words start) =
    ap (taken (low + done) len) before ∙ taken_above at (low + done) len (taken low done (bits_of_words start))
    (bits_of_words start) (omega arith) (omega arith) in
    w ∙ ap₂ (spliced (at + done)) (bits_of_part (low + done) len word (bits_of_words now) (omega arith) e ∙ read) before
    ∙ spliced_next at (at + done) (taken low done (bits_of_words start)) (taken (low + done) len (bits_of_words start))
    (bits_of_words start) (omega arith) (omega arith)
    ∙ ap (λ z. spliced at z (bits_of_words start)) (taken_joined low done len (bits_of_words start))

-- one more block is moved up, where k of the n bits are left
pub moved_up : (at low n k len word : ℕ) (start now new : List ℕ) → low ≤ at → at + n ≤ 64 * length start → k + len ≤ n →
    bits_of_words now ≡ spliced (at + (k + len)) (taken (low + (k + len)) (n - (k + len)) (bits_of_words start))
    (bits_of_words start) → word ≡ number_of (taken (low + k) len (bits_of_words now)) →
    bits_of_words new ≡ spliced (at + k) (low_bits len word) (bits_of_words now) →
    bits_of_words new ≡ spliced (at + k) (taken (low + k) (n - k) (bits_of_words start)) (bits_of_words start)
moved_up at low n k len word start now new up inside h before e w =
    let size : length (bits_of_words start) ≡ 64 * length start = length_bits_of_words start in
    let done : List Bool = taken (low + (k + len)) (n - (k + len)) (bits_of_words start) in
    let part : length done ≡ n - (k + len) = length_taken (low + (k + len)) (n - (k + len)) (bits_of_words start) (omega arith) in
    let next : length (taken (low + k) len (bits_of_words start)) ≡ len = length_taken (low + k) len (bits_of_words start) (omega arith) in
    let same : length (bits_of_words now) ≡ length (bits_of_words start) = ap length before
    ∙ length_spliced (at + (k + len)) done (bits_of_words start) (omega arith) in
    let read : taken (low + k) len (bits_of_words now) ≡ taken (low + k) len (bits_of_words start) =
    ap (taken (low + k) len) before ∙ taken_below (at + (k + len)) (low + k) len done (bits_of_words start) (omega arith) (omega arith) in
    let place : low + k + len ≡ low + (k + len) = omega arith in
    let whole : len + (n - (k + len)) ≡ n - k = omega arith in
    w ∙ ap₂ (spliced (at + k)) (bits_of_part (low + k) len word (bits_of_words now) (omega arith) e ∙ read) before
    ∙ spliced_before (at + k) (at + (k + len)) (taken (low + k) len (bits_of_words start)) done (bits_of_words start) (omega arith) (omega arith)
    ∙ ap (λ z. spliced (at + k) z (bits_of_words start))
    (ap (λ p. taken (low + k) len (bits_of_words start) ++ taken p (n - (k + len)) (bits_of_words start)) (sym place)
    ∙ taken_joined (low + k) len (n - (k + len)) (bits_of_words start) ∙ ap (λ m. taken (low + k) m (bits_of_words start)) whole)

-- one more block is filled
pub filled_more : (b : Bool) (at done len word : ℕ) (start now new : List ℕ) → at + done ≤ 64 * length start →
    bits_of_words now ≡ spliced at (replicate done b) (bits_of_words start) → low_bits len word ≡ replicate len b →
    bits_of_words new ≡ spliced (at + done) (low_bits len word) (bits_of_words now) →
    bits_of_words new ≡ spliced at (replicate (done + len) b) (bits_of_words start)
filled_more b at done len word start now new inside before e w =
    w ∙ ap₂ (spliced (at + done)) e before
    ∙ spliced_next at (at + done) (replicate done b) (replicate len b) (bits_of_words start)
    (omega (arith, length-replicate done b)) (omega (arith, length_bits_of_words start))
    ∙ ap (λ z. spliced at z (bits_of_words start)) (replicate-append-replicate done len b)

-- a whole word is written
pub word_stored : (at n word : ℕ) (ws : List ℕ) → n ≡ 64 → at % 64 ≡ 0 → at + n ≤ 64 * length ws →
    bits_of_words (set ws (at / 64) word) ≡ spliced at (low_bits n word) (bits_of_words ws)
word_stored at n word ws whole aligned inside =
    let q : ℕ = at / 64 in
    let place : 64 * q ≡ at = omega arith in
    let next : 64 * suc q ≡ at + length (low_bits n word) = omega (arith, length-low_bits n word) in
    let size : word_size ≡ n = word_size_is ∙ sym whole in
    ap bits_of_words (set_split ws q word (omega arith))
    ∙ flat_map-append (low_bits word_size) (take q ws) (word ∷ drop (suc q) ws)
    ∙ ap₂ (λ x y. x ++ (low_bits word_size word ++ y))
    (sym (take_words q ws (omega arith)) ∙ ap (λ k. take k (bits_of_words ws)) place)
    (sym (drop_words (suc q) ws (omega arith)) ∙ ap (λ k. drop k (bits_of_words ws)) next)
    ∙ ap (λ k. take at (bits_of_words ws) ++ (low_bits k word ++ drop (at + length (low_bits n word)) (bits_of_words ws))) size
    ∙ sym (append_assoc (take at (bits_of_words ws)) (low_bits n word) (drop (at + length (low_bits n word)) (bits_of_words ws)))
