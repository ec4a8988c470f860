mod FreshLemmas
