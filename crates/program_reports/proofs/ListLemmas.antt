-- On items that are put one after another, each by what it is seen as.
use Rattle.std.proofs.Common.{◌≡◌, ◌<◌, ◌≤◌, ◌+◌, ℕ, List, length, map, take, get_or, sym, ap, ◌∙◌, subst}
use Rattle.std.proofs.lemmas.List.{take_all}
use Rattle.std.proofs.lemmas.List.Folds.{flat_map-map}
use Rattle.std.specs.List.{flat_map}
use Rattle.tool_io.specs.declared.lines.Lines.{Lines}
use Rattle.tool_io.specs.declared.outside.Sink.{Ghosts as SinkOf}
use Rattle.tool_io.specs.Lines.{Puts, PutsBroken}
use Rattle.tool_io.proofs.PutLemmas.{puts_item, puts_item_front}

-- one item more
pub item_put : {K A B : Type 0} {sink : SinkOf K} {a b c : Lines K} (text : B → List ℕ) (view : A → B) (items : List A) (i : ℕ) (d : A) →
    i < length items → d ≡ get_or items i d → Puts sink a (flat_map (λ x. text (view x)) (take i items)) b → Puts sink b (text (view d)) c →
    Puts sink a (flat_map (λ x. text (view x)) (take (i + 1) items)) c
item_put {A = A} {sink = sink} {b = b} {c = c} text view items i d lt is first second =
    puts_item (λ x. text (view x)) items i d lt first (subst (λ (x : A). Puts sink b (text (view x)) c) is second)

-- an item that failed
pub item_front : {K A B : Type 0} {sink : SinkOf K} {a b c : Lines K} (text : B → List ℕ) (view : A → B) (items : List A) (i : ℕ) (d : A) →
    i < length items → d ≡ get_or items i d → Puts sink a (flat_map (λ x. text (view x)) (take i items)) b → PutsBroken sink b (text (view d)) c →
    PutsBroken sink a (flat_map text (map view items)) c
item_front {A = A} {sink = sink} {a = a} {b = b} {c = c} text view items i d lt is first second =
    subst (λ (t : List ℕ). PutsBroken sink a t c) (sym (flat_map-map text view items))
    (puts_item_front (λ x. text (view x)) items i d lt first (subst (λ (x : A). PutsBroken sink b (text (view x)) c) is second))

-- all items
pub items_put : {K A B : Type 0} {sink : SinkOf K} {a b : Lines K} (text : B → List ℕ) (view : A → B) (items : List A) (i : ℕ) →
    length items ≤ i → Puts sink a (flat_map (λ x. text (view x)) (take i items)) b → Puts sink a (flat_map text (map view items)) b
items_put {A = A} {sink = sink} {a = a} {b = b} text view items i le puts =
    subst (λ (t : List ℕ). Puts sink a t b)
    (ap (λ (xs : List A). flat_map (λ x. text (view x)) xs) (take_all i items le) ∙ sym (flat_map-map text view items)) puts

-- all items, each as it is
pub all_put : {K A : Type 0} {sink : SinkOf K} {a b : Lines K} (text : A → List ℕ) (items : List A) (i : ℕ) →
    length items ≤ i → Puts sink a (flat_map text (take i items)) b → Puts sink a (flat_map text items) b
all_put {A = A} {sink = sink} {a = a} {b = b} text items i le puts =
    subst (λ (t : List ℕ). Puts sink a t b) (ap (λ (xs : List A). flat_map text xs) (take_all i items le)) puts
