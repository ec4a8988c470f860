use Rattle.std.proofs.Common.{◌≡◌, ◌||◌, ◌∷◌, length, ap, subst, sym, ◌∙◌, arith}
use Rattle.std.specs.List.{AllByRecursion}
use Rattle.std.specs.Option.{option_or}
use Rattle.rad_packet.specs.Attributes.{Attribute, IsAttribute, count, has, has_len, integer_size, is_of, is_of_len, of_kind, size}
use Rattle.rad_packet.specs.Types.{type_acct_status_type, type_eap_message, type_message_authenticator, type_proxy_state}
use Rattle.rad_auth.specs.Summaries.{octets_after_hmac, first_after}
use Rattle.rad_auth.proofs.AttributeLemmas.{count-cons, count-size, size-of_kind, size-of_kind-cons}
use Rattle.rad_auth.proofs.SummaryLemmas.{any-step, octets_after_hmac-step}
use Rattle.rad_auth.proofs.summary.Summary.of.Goals as goal

pub add-requires-clause-few : goal.add-requires-clause-few
add-requires-clause-few c = omega (
  arith,
  c.loop-attribute.invariant.message_authenticators,
  count-size type_message_authenticator c.args.attributes,
  c.requires.fits,
)

pub add-requires-clause-short : goal.add-requires-clause-short
add-requires-clause-short c =
    omega (arith, c.loop-attribute.invariant.proxy_states, size-of_kind type_proxy_state c.args.attributes, c.requires.fits)

pub loop-attribute-preserved : goal.loop-attribute-preserved
loop-attribute-preserved c =
    let a : Attribute = record { kind = c.in-Some.attribute.kind; value = c.in-Some.attribute.value.now } in
    let others = c.next.new.self in
    let was = c.loop-attribute.summary in
    let known = c.loop-attribute.invariant in
    let e : c.loop-attribute.rest ≡ a ∷ others = c.in-Some.ensures.steps in
    let counted = ap (count type_message_authenticator) e in
    record {
      message_authenticators = omega (
        arith,
        c.add.ensures.message_authenticators,
        known.message_authenticators,
        counted,
        count-cons type_message_authenticator a others,
      );
      octets_after_hmac = ap (λ o. option_or o (octets_after_hmac others))
          (c.add.ensures.octets_after_hmac ∙ ap (λ octets. first_after a (length octets) was.octets_after_hmac) c.octets.ensures)
          ∙ octets_after_hmac-step was.octets_after_hmac a others
          ∙ ap (λ list. option_or was.octets_after_hmac (octets_after_hmac list)) (sym e) ∙ known.octets_after_hmac;
      has_eap_message = ap (λ so_far. so_far || has type_eap_message others) c.add.ensures.has_eap_message
          ∙ any-step (is_of type_eap_message) was.has_eap_message a others
          ∙ ap (λ list. was.has_eap_message || has type_eap_message list) (sym e) ∙ known.has_eap_message;
      has_status_type = ap (λ so_far. so_far || has_len type_acct_status_type integer_size others) c.add.ensures.has_status_type
          ∙ any-step (is_of_len type_acct_status_type integer_size) was.has_status_type a others
          ∙ ap (λ list. was.has_status_type || has_len type_acct_status_type integer_size list) (sym e) ∙ known.has_status_type;
      proxy_states = omega (
        arith,
        c.add.ensures.proxy_states,
        known.proxy_states,
        ap (λ list. size (of_kind type_proxy_state list)) e,
        size-of_kind-cons type_proxy_state a others,
      );
      each = (subst (AllByRecursion IsAttribute) e known.each).1;
    }
