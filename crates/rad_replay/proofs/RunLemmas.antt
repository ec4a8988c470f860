-- From the parts of an input to the end of a run.
use Rattle.std.proofs.Common.{◌≡◌, ℕ, suc, ◌≤◌, ◌⊎◌, Bool, true, false, not, cond, eqb, List, [], ◌∷◌, ◌++◌, length, Option, Some}
use Rattle.std.proofs.Common.{None, Result, Ok, Err, refl, ap, sym, subst, ◌∙◌, arith, inl, inr}
use Rattle.std.specs.Prelude.{filter, map, option_map, unwrap_or, IfSome}
use Rattle.std.specs.Io.KnownBytes.{Appends, Consumes, IsAtEnd}
use Rattle.std.proofs.lemmas.List.{append-nil, length-map}
use Rattle.rad_config.specs.Configurations.{Configuration, configuration_of_octets}
use Rattle.rad_config.specs.Inputs.{text_max}
use Rattle.rad_config_fault.specs.declared.config_fault.ConfigFault.{ConfigFault}
use Rattle.rad_config_fault.specs.declared.config_fault.ConfigFault.TheVariants as fault
use Rattle.rad_replay.specs.declared.run_fault.RunFault.{RunFault}
use Rattle.rad_replay.specs.declared.run_fault.RunFault.TheVariants as run
use Rattle.rad_text.specs.Lines.{Divides, lines_of, onto_first, line_feed, divided, is_divider, is_skipped, datagram_lines}
use Rattle.rad_text.specs.Lines.{without_return}
use Rattle.rad_replay.specs.Replays.{EndsLines, IsReadFault}
use Rattle.rad_replay.specs.Transcripts.{IsAfterReading, IsAllRead, IsInput, EndsRun}
use Rattle.rad_replay.proofs.TranscriptLemmas.{Appends-nil}

-- ---- there are no more lines than octets

length-onto_first : (octet : ℕ) (lines : List (List ℕ)) → length (onto_first octet lines) ≤ suc (length lines)
length-onto_first octet [] = omega arith
length-onto_first octet (line ∷ lines) = omega arith

length-lines_of : (text : List ℕ) → length (lines_of text) ≤ length text
length-lines_of [] = omega arith
length-lines_of (octet ∷ text) =
    let later = length-lines_of text in
    let front = length-onto_first octet (lines_of text) in
    elim (eqb octet line_feed) as (λ b. length (cond b ([] ∷ lines_of text) (onto_first octet (lines_of text)))
    ≤ length (octet ∷ text)) [ true ↦ omega arith | false ↦ omega arith ]

length-filter : {A : Type 0} (test : A → Bool) (xs : List A) → length (filter test xs) ≤ length xs
length-filter test [] = omega arith
length-filter test (x ∷ xs) =
    let later = length-filter test xs in
    elim (test x) as (λ b. length (cond b (x ∷ filter test xs) (filter test xs)) ≤ length (x ∷ xs))
    [ true ↦ omega arith | false ↦ omega arith ]

length-datagram_lines : (lines : List (List ℕ)) → length (datagram_lines lines) ≤ length lines
length-datagram_lines lines =
    omega (arith, length-filter (λ line. not (is_skipped line)) (map without_return lines), length-map lines without_return)

second : {p q : List (List ℕ) × List (List ℕ)} → Some p ≡ Some q → p.1 ≡ q.1
second e = ap (λ (o : Option (List (List ℕ) × List (List ℕ))). (unwrap_or o ([], [])).1) e

length-divided : (lines : List (List ℕ)) (before after : List (List ℕ)) → divided lines ≡ Some (before, after)
    → length after ≤ length lines
length-divided [] before after e = absurd cc
length-divided (line ∷ lines) before after e = at (is_divider line) (divided lines) (length-divided lines) e
  where
    at : (b : Bool) (parts : Option (List (List ℕ) × List (List ℕ)))
        → ((before after : List (List ℕ)) → parts ≡ Some (before, after) → length after ≤ length lines)
        → cond {A = Option (List (List ℕ) × List (List ℕ))} b (Some ([], lines))
        (option_map (λ found. (line ∷ found.0, found.1)) parts) ≡ Some (before, after) → length after ≤ length (line ∷ lines)
    at true parts later e = omega (arith, ap length (second e))
    at false None later e = absurd cc
    at false (Some found) later e = omega (arith, ap length (second e), later found.0 found.1 refl)

pub few_lines : (text before after : List ℕ) → Divides text before after → length (datagram_lines (lines_of after)) ≤ length text
few_lines text before after d =
    omega (
      arith,
      length-datagram_lines (lines_of after),
      length-divided (lines_of text) d.lines_before (lines_of after) d.parts,
      length-lines_of text,
    )

-- ---- what was read is the input

-- all that a reader had, where that is known
pub read_all : (old new : Option (List ℕ)) (text : List ℕ) → Consumes old new text → IsAtEnd new → IfSome old (λ all. all ≡ text)
read_all None new text consumed end = tt
read_all (Some all) None text consumed end = absurd consumed
read_all (Some all) (Some rest) text consumed end = consumed ∙ ap (λ (more : List ℕ). text ++ more) end ∙ append-nil text

pub is_all_read : (old new : Option (List ℕ)) (text : List ℕ) → Consumes old new text → IsAtEnd new → IsAllRead old new
is_all_read None new text consumed end = tt
is_all_read (Some all) None text consumed end = absurd consumed
is_all_read (Some all) (Some rest) text consumed end = ap Some end

-- what reading reports may come before all was read
pub before_all_read : (fault : RunFault) → IsReadFault fault → IsAfterReading (Err fault) → ⊥
before_all_read run.Read is after = after
before_all_read run.TooLong is after = after
before_all_read run.NoMemory is after = after
before_all_read run.NoDivider is after = is
before_all_read (run.Config reported) is after = is
before_all_read (run.BadLine number) is after = is
before_all_read run.Write is after = is

-- ---- the end of a run

pub is_input : (text before after : List ℕ) (configuration : Configuration) → length text ≤ text_max → Divides text before after
    → configuration_of_octets before ≡ Ok configuration → IsInput text configuration (datagram_lines (lines_of after))
is_input text before after configuration short d e = record {
  short = short;
  parts = (d.lines_before, lines_of after, d.parts, ap configuration_of_octets (sym d.before_is) ∙ e, refl);
}

pub ends_run : (text : List ℕ) (configuration : Configuration) (lines : List (List ℕ)) (old new : Option (List ℕ))
    (result : Result Unit RunFault) → IsInput text configuration lines → EndsLines configuration lines (Appends old new) result
    → EndsRun text (Appends old new) result
ends_run text configuration lines old new (Ok done) input end = (configuration, lines, input, end)
ends_run text configuration lines old new (Err run.Read) input end = absurd end
ends_run text configuration lines old new (Err run.TooLong) input end = absurd end
ends_run text configuration lines old new (Err run.NoDivider) input end = absurd end
ends_run text configuration lines old new (Err (run.Config reported)) input end = absurd end
ends_run text configuration lines old new (Err (run.BadLine number)) input end = (configuration, lines, input, end)
ends_run text configuration lines old new (Err run.Write) input end = (configuration, lines, input, end)
ends_run text configuration lines old new (Err run.NoMemory) input end = end

-- what holds of the text that was read holds of what the reader had, where that is known
pub for_input : (had : Option (List ℕ)) (text : List ℕ) (P : List ℕ → Type 0) → IfSome had (λ all. all ≡ text) → P text
    → IfSome had P
for_input None text P same holds = tt
for_input (Some all) text P same holds = subst P (sym same) holds

pub ends_config : (text got before after : List ℕ) (reported : ConfigFault) (wrote : Option (List ℕ)) → length text ≤ text_max
    → got ≡ text → Divides got before after
    → (reported ≡ fault.NoMemory) ⊎ (configuration_of_octets before ≡ Err reported)
    → EndsRun text (Appends wrote wrote) (Err (run.Config reported))
ends_config text got before after reported wrote short same d why = (
  short,
  d.lines_before,
  lines_of after,
  ap (λ (t : List ℕ). divided (lines_of t)) (sym same) ∙ d.parts,
  elim why [ inl memory ↦ inl memory | inr refused ↦ inr (ap configuration_of_octets (sym d.before_is) ∙ refused) ],
  Appends-nil wrote,
)
