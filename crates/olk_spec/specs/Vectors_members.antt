-- Declared names, patterns and additional members in all their combinations, and other object keywords.
use Rattle.std.specs.Prelude.{◌∷◌, []}
use Prim.Native.String.{String as Quoted}
use Rattle.olk_spec.specs.Answers.{Holds, Fails, Refuses}

abbrev pub a_requires_b_and_c : Quoted
a_requires_b_and_c = "{\"dependentRequired\":{\"a\":[\"b\",\"c\"]}}"

abbrev pub short_names : Quoted
short_names = "{\"propertyNames\":{\"maxLength\":3}}"

abbrev pub names_without_white_space : Quoted
names_without_white_space = "{\"additionalProperties\":false,\"patternProperties\":{\"^\\\\S*$\":{\"type\":\"integer\"}}}"

abbrev pub closed : Quoted
closed = "{\"additionalProperties\":false,\"properties\":{\"foo\":{\"type\":\"string\"},\"barbaz\":{\"type\":\"integer\",\"multipleOf\":3}},\"patternProperties\":{\"^bar\":{\"type\":\"integer\",\"minimum\":5},\"spam$\":{\"type\":\"integer\",\"maximum\":10}}}"

abbrev pub closed_patterns : Quoted
closed_patterns = "{\"additionalProperties\":false,\"patternProperties\":{\"^bar\":{\"type\":\"integer\",\"minimum\":5},\"spam$\":{\"type\":\"integer\",\"maximum\":10}}}"

abbrev pub closed_foo : Quoted
closed_foo = "{\"additionalProperties\":false,\"properties\":{\"foo\":{\"type\":\"string\"}}}"

abbrev pub typed_foo : Quoted
typed_foo = "{\"additionalProperties\":{\"type\":\"integer\"},\"properties\":{\"foo\":{\"type\":\"string\"}}}"

abbrev pub typed : Quoted
typed = "{\"additionalProperties\":{\"type\":\"integer\"},\"properties\":{\"foo\":{\"type\":\"string\"},\"barbaz\":{\"type\":\"integer\",\"multipleOf\":3}},\"patternProperties\":{\"^bar\":{\"type\":\"integer\",\"minimum\":5},\"spam$\":{\"type\":\"integer\",\"maximum\":10}}}"

abbrev pub typed_patterns : Quoted
typed_patterns = "{\"additionalProperties\":{\"type\":\"integer\"},\"patternProperties\":{\"^bar\":{\"type\":\"integer\",\"minimum\":5},\"spam$\":{\"type\":\"integer\",\"maximum\":10}}}"

abbrev pub two_required : Quoted
two_required = "{\"properties\":{\"a\":{\"type\":\"integer\"},\"b\":{\"type\":\"string\"}},\"required\":[\"a\",\"b\"]}"

abbrev pub one_declared_of_two : Quoted
one_declared_of_two = "{\"properties\":{\"a\":{\"type\":\"integer\"},\"b\":{}},\"required\":[\"a\",\"z\"]}"

abbrev pub five_arrays : Quoted
five_arrays = "{\"additionalProperties\":false,\"required\":[\"id\"],\"properties\":{\"id\":{\"type\":\"integer\"},\"a\":{\"type\":\"array\"},\"b\":{\"type\":\"array\"},\"c\":{\"type\":\"array\"},\"d\":{\"type\":\"array\"},\"e\":{\"type\":\"array\"}}}"

pub record Vectors_members : Type 0 where
  pub dependencies_list_names : Fails "{\"dependencies\":{\"bar\":[\"foo\"]}}" "{\"bar\":1}" ("\"foo\" is a required property @ \"\", /dependencies" ∷ [])
  pub dependencies_hold_schemas : Fails "{\"dependencies\":{\"bar\":{\"type\":\"string\"}}}" "{\"bar\":1}" ("{\"bar\":1} is not of type \"string\" @ \"\", /dependencies/bar/type" ∷ [])
  pub both_dependent_names_are_missing : Fails a_requires_b_and_c "{\"a\":1}" ("\"b\" is a required property @ \"\", /dependentRequired" ∷ "\"c\" is a required property @ \"\", /dependentRequired" ∷ [])
  pub both_dependent_names_are_there : Holds a_requires_b_and_c "{\"a\":1,\"b\":2,\"c\":3}"
  pub without_the_key_nothing_is_required : Holds a_requires_b_and_c "{\"b\":2}"
  pub an_array_has_no_key : Holds a_requires_b_and_c "[1]"
  pub three_short_names : Holds short_names "{\"a\":1,\"bc\":1,\"def\":1}"
  pub one_long_name : Fails short_names "{\"ab\":1,\"cdef\":1}" ("\"cdef\" is longer than 3 characters @ \"\", /propertyNames/maxLength" ∷ [])
  pub a_name_without_white_space : Holds names_without_white_space "{\"ab\":1}"
  pub a_name_with_white_space : Refuses names_without_white_space "{\"a b\":1}"
  pub a_wrong_value_without_white_space : Refuses names_without_white_space "{\"ab\":\"x\"}"
  pub closed_on_an_array : Holds closed "[1]"
  pub closed_patterns_on_an_array : Holds closed_patterns "[1]"
  pub closed_foo_on_an_array : Holds closed_foo "[1]"
  pub typed_foo_on_an_array : Holds typed_foo "[1]"
  pub typed_on_an_array : Holds typed "[1]"
  pub typed_patterns_on_an_array : Holds typed_patterns "[1]"
  pub closed_on_no_members : Holds closed "{}"
  pub closed_patterns_on_no_members : Holds closed_patterns "{}"
  pub closed_foo_on_no_members : Holds closed_foo "{}"
  pub typed_foo_on_no_members : Holds typed_foo "{}"
  pub typed_on_no_members : Holds typed "{}"
  pub typed_patterns_on_no_members : Holds typed_patterns "{}"
  pub closed_on_a_right_foo : Holds closed "{\"foo\":\"a\"}"
  pub closed_foo_on_a_right_foo : Holds closed_foo "{\"foo\":\"a\"}"
  pub typed_foo_on_a_right_foo : Holds typed_foo "{\"foo\":\"a\"}"
  pub typed_on_a_right_foo : Holds typed "{\"foo\":\"a\"}"
  pub closed_on_a_wrong_foo : Fails closed "{\"foo\":3}" ("3 is not of type \"string\" @ /foo, /properties/foo/type" ∷ [])
  pub closed_foo_on_a_wrong_foo : Fails closed_foo "{\"foo\":3}" ("3 is not of type \"string\" @ /foo, /properties/foo/type" ∷ [])
  pub typed_foo_on_a_wrong_foo : Fails typed_foo "{\"foo\":3}" ("3 is not of type \"string\" @ /foo, /properties/foo/type" ∷ [])
  pub typed_on_a_wrong_foo : Fails typed "{\"foo\":3}" ("3 is not of type \"string\" @ /foo, /properties/foo/type" ∷ [])
  pub closed_on_a_right_bar_and_spam : Holds closed "{\"bar\":6,\"spam\":7}"
  pub closed_patterns_on_a_right_bar_and_spam : Holds closed_patterns "{\"bar\":6,\"spam\":7}"
  pub typed_on_a_right_bar_and_spam : Holds typed "{\"bar\":6,\"spam\":7}"
  pub typed_patterns_on_a_right_bar_and_spam : Holds typed_patterns "{\"bar\":6,\"spam\":7}"
  pub closed_on_a_right_barspam : Holds closed "{\"barspam\":7}"
  pub closed_patterns_on_a_right_barspam : Holds closed_patterns "{\"barspam\":7}"
  pub typed_on_a_right_barspam : Holds typed "{\"barspam\":7}"
  pub typed_patterns_on_a_right_barspam : Holds typed_patterns "{\"barspam\":7}"
  pub closed_on_a_low_bar : Fails closed "{\"bar\":4}" ("4 is less than the minimum of 5 @ /bar, /patternProperties/^bar/minimum" ∷ [])
  pub closed_patterns_on_a_low_bar : Fails closed_patterns "{\"bar\":4}" ("4 is less than the minimum of 5 @ /bar, /patternProperties/^bar/minimum" ∷ [])
  pub typed_on_a_low_bar : Fails typed "{\"bar\":4}" ("4 is less than the minimum of 5 @ /bar, /patternProperties/^bar/minimum" ∷ [])
  pub typed_patterns_on_a_low_bar : Fails typed_patterns "{\"bar\":4}" ("4 is less than the minimum of 5 @ /bar, /patternProperties/^bar/minimum" ∷ [])
  pub closed_on_a_high_spam : Fails closed "{\"spam\":11}" ("11 is greater than the maximum of 10 @ /spam, /patternProperties/spam$/maximum" ∷ [])
  pub closed_patterns_on_a_high_spam : Fails closed_patterns "{\"spam\":11}" ("11 is greater than the maximum of 10 @ /spam, /patternProperties/spam$/maximum" ∷ [])
  pub typed_on_a_high_spam : Fails typed "{\"spam\":11}" ("11 is greater than the maximum of 10 @ /spam, /patternProperties/spam$/maximum" ∷ [])
  pub typed_patterns_on_a_high_spam : Fails typed_patterns "{\"spam\":11}" ("11 is greater than the maximum of 10 @ /spam, /patternProperties/spam$/maximum" ∷ [])
  pub closed_on_a_low_barspam : Fails closed "{\"barspam\":4}" ("4 is less than the minimum of 5 @ /barspam, /patternProperties/^bar/minimum" ∷ [])
  pub closed_patterns_on_a_low_barspam : Fails closed_patterns "{\"barspam\":4}" ("4 is less than the minimum of 5 @ /barspam, /patternProperties/^bar/minimum" ∷ [])
  pub typed_on_a_low_barspam : Fails typed "{\"barspam\":4}" ("4 is less than the minimum of 5 @ /barspam, /patternProperties/^bar/minimum" ∷ [])
  pub typed_patterns_on_a_low_barspam : Fails typed_patterns "{\"barspam\":4}" ("4 is less than the minimum of 5 @ /barspam, /patternProperties/^bar/minimum" ∷ [])
  pub closed_on_a_high_barspam : Fails closed "{\"barspam\":11}" ("11 is greater than the maximum of 10 @ /barspam, /patternProperties/spam$/maximum" ∷ [])
  pub closed_patterns_on_a_high_barspam : Fails closed_patterns "{\"barspam\":11}" ("11 is greater than the maximum of 10 @ /barspam, /patternProperties/spam$/maximum" ∷ [])
  pub typed_on_a_high_barspam : Fails typed "{\"barspam\":11}" ("11 is greater than the maximum of 10 @ /barspam, /patternProperties/spam$/maximum" ∷ [])
  pub typed_patterns_on_a_high_barspam : Fails typed_patterns "{\"barspam\":11}" ("11 is greater than the maximum of 10 @ /barspam, /patternProperties/spam$/maximum" ∷ [])
  pub closed_on_a_wrong_foo_and_a_low_bar : Fails closed "{\"foo\":3,\"bar\":4}" ("3 is not of type \"string\" @ /foo, /properties/foo/type" ∷ "4 is less than the minimum of 5 @ /bar, /patternProperties/^bar/minimum" ∷ [])
  pub typed_on_a_wrong_foo_and_a_low_bar : Fails typed "{\"foo\":3,\"bar\":4}" ("3 is not of type \"string\" @ /foo, /properties/foo/type" ∷ "4 is less than the minimum of 5 @ /bar, /patternProperties/^bar/minimum" ∷ [])
  pub closed_on_a_faz_that_is_unexpected : Fails closed "{\"faz\":\"a\"}" ("Additional properties are not allowed ('faz' was unexpected) @ \"\", /additionalProperties" ∷ [])
  pub closed_patterns_on_a_faz_that_is_unexpected : Fails closed_patterns "{\"faz\":\"a\"}" ("Additional properties are not allowed ('faz' was unexpected) @ \"\", /additionalProperties" ∷ [])
  pub closed_foo_on_a_faz_that_is_unexpected : Fails closed_foo "{\"faz\":\"a\"}" ("Additional properties are not allowed ('faz' was unexpected) @ \"\", /additionalProperties" ∷ [])
  pub typed_foo_on_a_faz_that_is_no_integer : Fails typed_foo "{\"faz\":\"a\"}" ("\"a\" is not of type \"integer\" @ /faz, /additionalProperties/type" ∷ [])
  pub typed_on_a_faz_that_is_no_integer : Fails typed "{\"faz\":\"a\"}" ("\"a\" is not of type \"integer\" @ /faz, /additionalProperties/type" ∷ [])
  pub typed_patterns_on_a_faz_that_is_no_integer : Fails typed_patterns "{\"faz\":\"a\"}" ("\"a\" is not of type \"integer\" @ /faz, /additionalProperties/type" ∷ [])
  pub typed_foo_on_a_right_foo_and_a_low_bar : Holds typed_foo "{\"foo\":\"a\",\"bar\":4}"
  pub typed_patterns_on_a_low_bar_and_a_foo_that_is_no_integer : Fails typed_patterns "{\"foo\":\"a\",\"bar\":4}" ("\"a\" is not of type \"integer\" @ /foo, /additionalProperties/type" ∷ "4 is less than the minimum of 5 @ /bar, /patternProperties/^bar/minimum" ∷ [])
  pub typed_on_one_fault_of_each_kind : Fails typed "{\"bar\":4,\"spam\":11,\"foo\":3,\"faz\":\"a\",\"fam\":42}" ("\"a\" is not of type \"integer\" @ /faz, /additionalProperties/type" ∷ "11 is greater than the maximum of 10 @ /spam, /patternProperties/spam$/maximum" ∷ "3 is not of type \"string\" @ /foo, /properties/foo/type" ∷ "4 is less than the minimum of 5 @ /bar, /patternProperties/^bar/minimum" ∷ [])
  pub a_text_requires_nothing : Holds two_required "\"string\""
  pub one_of_two_is_missing : Refuses two_required "{\"a\":1,\"c\":3}"
  pub one_of_two_is_missing_among_300_others : Refuses two_required "{\"b\":\"x\",\"m000\":1,\"m001\":1,\"m002\":1,\"m003\":1,\"m004\":1,\"m005\":1,\"m006\":1,\"m007\":1,\"m008\":1,\"m009\":1,\"m010\":1,\"m011\":1,\"m012\":1,\"m013\":1,\"m014\":1,\"m015\":1,\"m016\":1,\"m017\":1,\"m018\":1,\"m019\":1,\"m020\":1,\"m021\":1,\"m022\":1,\"m023\":1,\"m024\":1,\"m025\":1,\"m026\":1,\"m027\":1,\"m028\":1,\"m029\":1,\"m030\":1,\"m031\":1,\"m032\":1,\"m033\":1,\"m034\":1,\"m035\":1,\"m036\":1,\"m037\":1,\"m038\":1,\"m039\":1,\"m040\":1,\"m041\":1,\"m042\":1,\"m043\":1,\"m044\":1,\"m045\":1,\"m046\":1,\"m047\":1,\"m048\":1,\"m049\":1,\"m050\":1,\"m051\":1,\"m052\":1,\"m053\":1,\"m054\":1,\"m055\":1,\"m056\":1,\"m057\":1,\"m058\":1,\"m059\":1,\"m060\":1,\"m061\":1,\"m062\":1,\"m063\":1,\"m064\":1,\"m065\":1,\"m066\":1,\"m067\":1,\"m068\":1,\"m069\":1,\"m070\":1,\"m071\":1,\"m072\":1,\"m073\":1,\"m074\":1,\"m075\":1,\"m076\":1,\"m077\":1,\"m078\":1,\"m079\":1,\"m080\":1,\"m081\":1,\"m082\":1,\"m083\":1,\"m084\":1,\"m085\":1,\"m086\":1,\"m087\":1,\"m088\":1,\"m089\":1,\"m090\":1,\"m091\":1,\"m092\":1,\"m093\":1,\"m094\":1,\"m095\":1,\"m096\":1,\"m097\":1,\"m098\":1,\"m099\":1,\"m100\":1,\"m101\":1,\"m102\":1,\"m103\":1,\"m104\":1,\"m105\":1,\"m106\":1,\"m107\":1,\"m108\":1,\"m109\":1,\"m110\":1,\"m111\":1,\"m112\":1,\"m113\":1,\"m114\":1,\"m115\":1,\"m116\":1,\"m117\":1,\"m118\":1,\"m119\":1,\"m120\":1,\"m121\":1,\"m122\":1,\"m123\":1,\"m124\":1,\"m125\":1,\"m126\":1,\"m127\":1,\"m128\":1,\"m129\":1,\"m130\":1,\"m131\":1,\"m132\":1,\"m133\":1,\"m134\":1,\"m135\":1,\"m136\":1,\"m137\":1,\"m138\":1,\"m139\":1,\"m140\":1,\"m141\":1,\"m142\":1,\"m143\":1,\"m144\":1,\"m145\":1,\"m146\":1,\"m147\":1,\"m148\":1,\"m149\":1,\"m150\":1,\"m151\":1,\"m152\":1,\"m153\":1,\"m154\":1,\"m155\":1,\"m156\":1,\"m157\":1,\"m158\":1,\"m159\":1,\"m160\":1,\"m161\":1,\"m162\":1,\"m163\":1,\"m164\":1,\"m165\":1,\"m166\":1,\"m167\":1,\"m168\":1,\"m169\":1,\"m170\":1,\"m171\":1,\"m172\":1,\"m173\":1,\"m174\":1,\"m175\":1,\"m176\":1,\"m177\":1,\"m178\":1,\"m179\":1,\"m180\":1,\"m181\":1,\"m182\":1,\"m183\":1,\"m184\":1,\"m185\":1,\"m186\":1,\"m187\":1,\"m188\":1,\"m189\":1,\"m190\":1,\"m191\":1,\"m192\":1,\"m193\":1,\"m194\":1,\"m195\":1,\"m196\":1,\"m197\":1,\"m198\":1,\"m199\":1,\"m200\":1,\"m201\":1,\"m202\":1,\"m203\":1,\"m204\":1,\"m205\":1,\"m206\":1,\"m207\":1,\"m208\":1,\"m209\":1,\"m210\":1,\"m211\":1,\"m212\":1,\"m213\":1,\"m214\":1,\"m215\":1,\"m216\":1,\"m217\":1,\"m218\":1,\"m219\":1,\"m220\":1,\"m221\":1,\"m222\":1,\"m223\":1,\"m224\":1,\"m225\":1,\"m226\":1,\"m227\":1,\"m228\":1,\"m229\":1,\"m230\":1,\"m231\":1,\"m232\":1,\"m233\":1,\"m234\":1,\"m235\":1,\"m236\":1,\"m237\":1,\"m238\":1,\"m239\":1,\"m240\":1,\"m241\":1,\"m242\":1,\"m243\":1,\"m244\":1,\"m245\":1,\"m246\":1,\"m247\":1,\"m248\":1,\"m249\":1,\"m250\":1,\"m251\":1,\"m252\":1,\"m253\":1,\"m254\":1,\"m255\":1,\"m256\":1,\"m257\":1,\"m258\":1,\"m259\":1,\"m260\":1,\"m261\":1,\"m262\":1,\"m263\":1,\"m264\":1,\"m265\":1,\"m266\":1,\"m267\":1,\"m268\":1,\"m269\":1,\"m270\":1,\"m271\":1,\"m272\":1,\"m273\":1,\"m274\":1,\"m275\":1,\"m276\":1,\"m277\":1,\"m278\":1,\"m279\":1,\"m280\":1,\"m281\":1,\"m282\":1,\"m283\":1,\"m284\":1,\"m285\":1,\"m286\":1,\"m287\":1,\"m288\":1,\"m289\":1,\"m290\":1,\"m291\":1,\"m292\":1,\"m293\":1,\"m294\":1,\"m295\":1,\"m296\":1,\"m297\":1,\"m298\":1,\"m299\":1}"
  pub the_missing_one_and_the_wrong_one : Fails two_required "{\"b\":1}" ("\"a\" is a required property @ \"\", /required" ∷ "1 is not of type \"string\" @ /b, /properties/b/type" ∷ [])
  pub a_required_name_is_undeclared : Holds one_declared_of_two "{\"a\":1,\"z\":2}"
  pub the_undeclared_name_is_missing : Refuses one_declared_of_two "{\"a\":1}"
  pub the_declared_value_is_wrong : Refuses one_declared_of_two "{\"a\":\"x\",\"z\":2}"
  pub the_required_one_alone : Holds five_arrays "{\"id\":1}"
  pub the_required_one_and_an_array : Holds five_arrays "{\"a\":[],\"id\":1}"
  pub an_object_for_an_array : Refuses five_arrays "{\"a\":{},\"id\":1}"
  pub a_text_for_the_required_one : Refuses five_arrays "{\"a\":[],\"id\":\"x\"}"
  pub an_unexpected_member : Refuses five_arrays "{\"a\":[],\"id\":1,\"zzz\":1}"
  pub the_required_one_is_missing : Refuses five_arrays "{\"a\":[]}"
