-- A program that finds no memory for its words.
use Rattle.std.proofs.Common.{◌≡◌, ℕ, List, [], Option, Some, None, IfSome, refl, inl, inr}
use Rattle.granit_base.specs.Written.{Written}
use Rattle.granit_events.specs.Ran.{End, Ran}
use Rattle.granit_events.specs.Tested.{Tested}
use Rattle.granit_events.proofs.Known.{keeps_itself}
use Rattle.granit_events.specs.declared.status.Status.TheVariants as status
use Rattle.granit.specs.Program.{RanOn}
use Rattle.granit.specs.Words.{words_of}

told_words : Option (List (List ℕ)) → List Written
told_words None = []
told_words (Some list) = words_of list

are_told : (all : Option (List (List ℕ))) → IfSome all (λ list. told_words all ≡ words_of list)
unfolding told_words
are_told None = tt
are_told (Some list) = refl

memory_ran_out : (words : List Written) (source sink : End) → Ran words source source sink sink status.NoMemory
memory_ran_out words source sink = record {
  ended = λ f. absurd f;
  read_fault = λ e. absurd cc;
  write_fault = λ e. absurd cc;
  no_memory = λ e. inl (keeps_itself sink.bytes);
  source_count = λ e. refl;
  sink_count = λ e. refl;
  none_left = λ f. absurd f;
  unread = λ k w. refl;
  usage = λ k w. tt;
  exactly = λ bytes wanted l c. tt;
  read = λ e. absurd cc;
  caused = λ e. absurd cc;
  answered = λ can quiet. inr refl;
  refused = λ f has quiet. inr refl;
  known = λ es has quiet. inr refl;
  layout = λ ts has quiet. inr refl;
}

no_memory_tested : (words : List Written) (source sink : End) → Tested words source source sink sink status.NoMemory
no_memory_tested words source sink = record {
  may = tt;
  ended = λ f. absurd f;
  write_fault = λ e. absurd cc;
  no_memory = λ e. keeps_itself sink.bytes;
  sink_count = λ e. refl;
  unread = refl;
  usage = λ k w. tt;
  right = λ seed size a. tt;
}

pub ran_out : (all : Option (List (List ℕ))) (source sink : End) → RanOn all source source sink sink status.NoMemory
ran_out all source sink = record {
  words = told_words all;
  are_the_words = are_told all;
  ran = λ other. memory_ran_out (told_words all) source sink;
  tested = λ begins. no_memory_tested (told_words all) source sink;
}
