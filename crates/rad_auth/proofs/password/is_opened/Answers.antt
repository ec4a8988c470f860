use Rattle.std.proofs.Common.{◌≡◌, ◌≤◌, ◌==◌, ◌&&◌, List, ℕ, length, take, ap, sym, ◌∙◌}
use lib.Pointwise.{pointwise}
use Rattle.std.proofs.lemmas.Bool.{le-leb}
use Rattle.rad_auth.specs.Passwords.{hidden_text, padded_password, password_max}
use Rattle.rad_auth.proofs.PasswordLemmas.{fits_room, hides_same, length-padded, take-padded}
use Rattle.rad_auth.proofs.password.is_opened.Goals as goal

pub returns : goal.returns
returns c = λ secret ra sixteen digests.
    let value : List ℕ = c.args.value.now in
    let password : List ℕ = c.args.password.now in
    let text : List ℕ = take (length value) c.open_blocks.new.text in
    let le : length password ≤ length value = c.if-password-value.false in
    let wanted : take (length value) c.padded-wanted.result ≡ padded_password (length value) password =
    ap (take (length value)) c.padded-wanted.ensures
    ∙ take-padded (length value) password_max password le (fits_room value c.requires) in
    c.same_octets.ensures
    ∙ ap (λ (w : List ℕ). pointwise ◌==◌ w text) wanted
    ∙ hides_same secret ra value text (padded_password (length value) password)
    (c.open_blocks.ensures.revealed secret ra sixteen digests) (length-padded (length value) password le)
    ∙ ap (λ b. b && pointwise ◌==◌ (hidden_text secret ra (padded_password (length value) password)) value)
    (sym (le-leb (length password) (length value) le))
