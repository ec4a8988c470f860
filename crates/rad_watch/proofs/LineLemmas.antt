-- Texts that grow.
use Rattle.std.proofs.Common.{◌≡◌, ℕ, List, ◌++◌, ap, ◌∙◌, append_assoc}

one_part_more : (text parts part between after : List ℕ) → between ≡ text ++ parts → after ≡ between ++ part
    → after ≡ text ++ (parts ++ part)
one_part_more text parts part between after first next = next ∙ ap (λ l. l ++ part) first ∙ append_assoc text parts part

-- five parts that are appended to a text, one after the other
pub five_parts : (text p1 p2 p3 p4 p5 t1 t2 t3 t4 t5 : List ℕ)
    → t1 ≡ text ++ p1 → t2 ≡ t1 ++ p2 → t3 ≡ t2 ++ p3 → t4 ≡ t3 ++ p4 → t5 ≡ t4 ++ p5 → t5 ≡ text ++ (p1 ++ p2 ++ p3 ++ p4 ++ p5)
five_parts text p1 p2 p3 p4 p5 t1 t2 t3 t4 t5 e1 e2 e3 e4 e5 =
    one_part_more text (p1 ++ p2 ++ p3 ++ p4) p5 t4 t5
    (one_part_more text (p1 ++ p2 ++ p3) p4 t3 t4 (one_part_more text (p1 ++ p2) p3 t2 t3 (one_part_more text p1 p2 t1 t2 e1 e2) e3)
    e4) e5
