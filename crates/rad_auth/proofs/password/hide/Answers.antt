use Rattle.std.proofs.Common.{◌≡◌, ◌≤◌, ◌++◌, List, ℕ, length, take, ap, ◌∙◌, arith}
use Rattle.std.proofs.lemmas.List.{take_at}
use borrow.Rule.Slice.PartMut.{post_of}
use Rattle.rad_auth.specs.Passwords.{hidden_text, padded_password, password_max}
use Rattle.rad_auth.proofs.PasswordLemmas.{length-padded, take-padded}
use Rattle.rad_auth.proofs.password.hide.Goals as goal

pub returns-clause-hidden : goal.returns-clause-hidden
returns-clause-hidden c =
    let len : ℕ = c.value_length-len.result in
    let password : List ℕ = c.args.password.now in
    let after : List ℕ = post_of 0 len c.args.value.now in
    let le : length password ≤ len = omega (arith, c.value_length-len.ensures, c.requires) in
    let most : len ≤ password_max = omega (arith, c.value_length-len.ensures, c.requires) in
    let copied : c.copy_from_slice.new.self ≡ padded_password len password =
    c.copy_from_slice.ensures.after ∙ ap (take len) c.padded.ensures ∙ take-padded len password_max password le most in
    let text : take len (c.copy_from_slice.new.self ++ after) ≡ padded_password len password =
    ap (λ (t : List ℕ). take len (t ++ after)) copied
    ∙ take_at (padded_password len password) after len (length-padded len password le) in
    let long : length c.hide_text.new.text ≡ len = c.hide_text.auto.text ∙ ap length text ∙ length-padded len password le in
    take_at c.hide_text.new.text _ len long
    ∙ c.hide_text.ensures
    ∙ ap (λ (t : List ℕ). hidden_text c.octets.result.now c.args.request_authenticator.now t) text
    ∙ ap (λ (s : List ℕ). hidden_text s c.args.request_authenticator.now (padded_password len password)) c.octets.ensures.value
    ∙ ap (λ n. hidden_text c.args.secret.now c.args.request_authenticator.now (padded_password n password))
    c.value_length-len.ensures
