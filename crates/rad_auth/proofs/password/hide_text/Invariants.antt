use Rattle.std.proofs.Common.{◌≡◌, ◌-◌, ◌*◌, ◌/◌, ◌++◌, length, take, drop}
use Rattle.rad_auth.specs.Passwords.{hidden_text}
use Rattle.rad_auth.proofs.PasswordLemmas.{hidden}
use Rattle.rad_auth.proofs.password.hide_text.Given as goal

-- the blocks so far, and what those that are left become
abbrev pub invariant-blocks-2 : goal.invariant-blocks-2
invariant-blocks-2 l = record {
  long : length l.text ≡ length l.fn.text;
  text : take (l.block * 16) l.text ++ hidden l.secret l.before (length l.fn.text / 16 - l.block) (drop (l.block * 16) l.text)
      ≡ hidden_text l.secret l.request_authenticator l.fn.text;
}
