use Rattle.std.proofs.Common.{◌∙◌, ◌++◌, ap, sym, arith, inl, inr, List, ℕ}
use Rattle.std.specs.Prelude.{is_some}
use Rattle.rad_packet.specs.Bodies.{Body}
use Rattle.rad_packet.specs.Attributes.{attributes_octets, attributes_of}
use Rattle.rad_packet.proofs.AttributeLemmas.{are-at, are-not, are-short}
use Rattle.rad_snapshot.proofs.BodyLemmas.{pushed}
use Rattle.rad_snapshot.proofs.body.push_all.Goals as goal

pub returns-then-len-lt2-clause-none : goal.returns-then-len-lt2-clause-none
returns-then-len-lt2-clause-none c =
    sym (are-not c.loop-rest.rest.now c.in-len2-up.len_at_least
    (elim c.then-len-lt2.either [ inl short ↦ inl short | inr long ↦ inr long.1 ])) ∙ c.loop-rest.invariant.left

pub loop-rest-preserved : goal.loop-rest-preserved
loop-rest-preserved c =
    record {
      left = ap (λ (l : List ℕ). is_some (attributes_of l)) c.split_at.ensures.back
          ∙ are-at c.loop-rest.rest.now c.in-len2-up.len_at_least (omega arith) (omega arith) ∙ c.loop-rest.invariant.left;
      code = ap (λ (b : Body). b.code) c.in_ok-push.ensures.appended ∙ c.loop-rest.invariant.code;
      so_far =
          let cut = c.split_at.ensures in
          ap (λ (b : Body). attributes_octets b.attributes ++ c.split_at.result.1.now) c.in_ok-push.ensures.appended
          ∙ pushed c.loop-rest.body.attributes c.split_at.result.0.now c.split_at.result.1.now c.loop-rest.rest.now _ _
          cut.front_len (omega arith)
          (cut.by_index.1 0 0 (omega arith)) (cut.by_index.1 1 0 (omega arith)) cut.by_index.0
          ∙ c.loop-rest.invariant.so_far;
    }

pub returns-clause-none : goal.returns-clause-none
returns-clause-none c =
    c.is_empty.ensures ∙ sym (are-short c.loop-rest.rest.now c.in_default.len_below) ∙ c.loop-rest.invariant.left
