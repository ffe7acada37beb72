mod FreshStores
