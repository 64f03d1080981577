-- On the words of questions about a file: they name one file and one number, or have one word that is not as stated.
use Rattle.std.proofs.Common.{◌≡◌, ◌∙◌, ℕ, List, [], ◌∷◌, Option, sym, subst}
use Rattle.std.specs.Prelude.{Result}
use Rattle.tool_io.specs.declared.outside.Shelf.{Ghosts as ShelfOf}
use Rattle.command_words.proofs.ValueLemmas.{one_path, one_number}
use Rattle.tool_frame.specs.declared.no_answer.NoAnswer.{NoAnswer}
use Rattle.tool_frame.specs.Files.{OfFiles, NamesOne, KeepsShelf}
use Rattle.tool_frame.proofs.FileLemmas.{shelf_within}
use Rattle.tool_questions.specs.Questions.{FileQuestion, question_word, IsFileNamed, IsPartAsked, IsMoreUsage, IsFileUsage, no_file, after_file, AreFileUsage, IsNumberUsage, no_number, after_number, HasPartUsage, NamesQuestionFile, IsAskedOf}
use Rattle.tool_questions.proofs.WordLemmas.{same_rest, same_question}

module _ (key : List ℕ) where
  pub one_file : (rest : List (List ℕ)) (path other : List ℕ) → IsFileNamed key rest path → IsFileNamed key rest other → path ≡ other
  one_file [] path other x y = absurd x
  one_file (file ∷ []) path other x y = one_path key file path other x y
  one_file (file ∷ more ∷ rest) path other x y = absurd x

  pub one_asked : (rest : List (List ℕ)) (n m : ℕ) (path other : List ℕ) → IsPartAsked key rest n path → IsPartAsked key rest m other → n ≡ m
  one_asked [] n m path other x y = absurd x
  one_asked (word ∷ rest) n m path other x y = one_number [] 0 4294967295 word n m x.0 y.0

  pub one_path_asked : (rest : List (List ℕ)) (n m : ℕ) (path other : List ℕ) → IsPartAsked key rest n path → IsPartAsked key rest m other → path ≡ other
  one_path_asked [] n m path other x y = absurd x
  one_path_asked (word ∷ rest) n m path other x y = one_file rest path other x.1 y.1

  pub named_or_usage : (place : ℕ) (rest : List (List ℕ)) (m : ℕ) (path : List ℕ) → IsFileNamed key rest path → AreFileUsage key place rest m → ⊥
  named_or_usage place [] m path x y = x
  named_or_usage place (file ∷ []) m path x (no_file none at) = none path x
  named_or_usage place (file ∷ []) m path x (after_file other also more) = more
  named_or_usage place (file ∷ more ∷ rest) m path x y = x

  pub asked_or_usage : (rest : List (List ℕ)) (n m : ℕ) (path : List ℕ) → IsPartAsked key rest n path → HasPartUsage key rest m → ⊥
  asked_or_usage [] n m path x y = x
  asked_or_usage (word ∷ rest) n m path x (no_number none at) = none n x.0
  asked_or_usage (word ∷ rest) n m path x (after_number k found y) = named_or_usage 3 rest m path x.1 y

  same_more : (place : ℕ) (rest : List (List ℕ)) (m k : ℕ) → IsMoreUsage place rest m → IsMoreUsage place rest k → m ≡ k
  same_more place [] m k x y = absurd x
  same_more place (word ∷ rest) m k x y = x ∙ sym y

  same_file : (place : ℕ) (file : List ℕ) (rest : List (List ℕ)) (m k : ℕ) → IsFileUsage key place file rest m → IsFileUsage key place file rest k → m ≡ k
  same_file place file rest m k (no_file none x) (no_file other y) = x ∙ sym y
  same_file place file rest m k (no_file none x) (after_file path named y) = absurd (none path named)
  same_file place file rest m k (after_file path named x) (no_file none y) = absurd (none path named)
  same_file place file rest m k (after_file path named x) (after_file other also y) = same_more place rest m k x y

  pub same_files : (place : ℕ) (rest : List (List ℕ)) (m k : ℕ) → AreFileUsage key place rest m → AreFileUsage key place rest k → m ≡ k
  same_files place [] m k x y = x ∙ sym y
  same_files place (file ∷ rest) m k x y = same_file place file rest m k x y

  same_number : (word : List ℕ) (rest : List (List ℕ)) (m k : ℕ) → IsNumberUsage key word rest m → IsNumberUsage key word rest k → m ≡ k
  same_number word rest m k (no_number none x) (no_number other y) = x ∙ sym y
  same_number word rest m k (no_number none x) (after_number n found y) = absurd (none n found)
  same_number word rest m k (after_number n found x) (no_number none y) = absurd (none n found)
  same_number word rest m k (after_number n found x) (after_number l also y) = same_files 3 rest m k x y

  pub same_usage : (rest : List (List ℕ)) (m k : ℕ) → HasPartUsage key rest m → HasPartUsage key rest k → m ≡ k
  same_usage [] m k x y = x ∙ sym y
  same_usage (word ∷ rest) m k x y = same_number word rest m k x y

-- the words of a question about a file, and the file that they name
module _ (words rest : List (List ℕ)) (question : FileQuestion) (begins : words ≡ question_word question ∷ rest) where
  named_as : (path : List ℕ) → IsAskedOf words path → NamesQuestionFile question rest path
  named_as path is =
      let same : is.question ≡ question = same_question words is.rest rest is.question question is.words_are begins in
      let moved : words ≡ question_word question ∷ is.rest = subst (λ (q : FileQuestion). words ≡ question_word q ∷ is.rest) same is.words_are in
      subst (λ (r : List (List ℕ)). NamesQuestionFile question r path) (same_rest (question_word question) is.rest rest (sym moved ∙ begins))
      (subst (λ (q : FileQuestion). NamesQuestionFile q is.rest path) same is.names)

  -- what stands of the contents of the file that the words after the first name
  pub of_asked : {told : Option (List (List ℕ × List ℕ))} {P Q : List (Option (List ℕ)) → Type 0} → ((contents : List (Option (List ℕ))) → P contents → Q contents) →
      OfFiles (NamesOne (NamesQuestionFile question rest)) told P → OfFiles (NamesOne (IsAskedOf words)) told Q
  of_asked f o = record {
    contents = o.contents;
    read = λ named n. o.read named (record { path = n.path; is = named_as n.path n.is; alone = n.alone });
    holds = f o.contents o.holds;
  }

  asked_as : (path : List ℕ) → NamesQuestionFile question rest path → IsAskedOf words path
  asked_as path is = record { question = question; rest = rest; words_are = begins; names = is }

  pub shelf_of_asked : {S T : Type 0} {shelf : ShelfOf S} {before after : S} {r : Result T NoAnswer} →
      KeepsShelf shelf (NamesOne (NamesQuestionFile question rest)) (NamesQuestionFile question rest) before after r →
      KeepsShelf shelf (NamesOne (IsAskedOf words)) (IsAskedOf words) before after r
  shelf_of_asked kept =
      shelf_within (λ named n. record { path = n.path; is = asked_as n.path n.is; alone = n.alone }) asked_as kept
